-- What a served open does to what is seen: of its tape what `lives` says, of every other tape nothing; its tape has the next handle's number, and the areas
-- stay in order. Assumes nothing.
use Rattle.std.specs.Prelude.{◌≡◌, ◌≢◌, true, List, [], ℕ, ◌+◌, ◌<◌, ◌^◌, length, Option, Some, None, Ok}
use Rattle.std.proofs.Common.{sym, subst, ◌∙◌, arith}
use Rattle.std.proofs.Math.Path.{ap}
use Rattle.octets.specs.Number.{Bytes}
use Rattle.answers.specs.Answers.{code_of}
use Rattle.metadata.specs.declared.choice.Side.{Side}
use Rattle.metadata.specs.declared.choice.Side.TheVariants.{Left, Right}
use Rattle.layout.specs.NamesLaws.{name-low}
use Rattle.layout.specs.Disk as D
use Rattle.layout.specs.Session.{names_at}
use Rattle.disk.specs.Steps.{side_bytes}
use Rattle.session.specs.declared.head.Head.{Head}
use Rattle.session.specs.declared.transactions.Kind.TheVariants as K
use Rattle.session.specs.declared.transactions.Transaction.{Transaction}
use Rattle.session.specs.declared.views.View.{View}
use Rattle.session.specs.Rows.{head_of, transaction_of, ring_bytes}
use Rattle.rolling_tape.specs.Removal.{areas}
use Rattle.beginning.specs.Transactions.{is_open_at}
use Rattle.beginning.specs.Ways.{usable-begun, usable-disk}
use Rattle.opening.specs.Calls.{cached_bytes, view_found, place_for, open_call, opened}
use Rattle.opening.specs.Laws.{open-sound, open-bytes}
use Rattle.restarts.specs.Kept.{open-level}
use Rattle.touches.specs.Opens.{open-touches-disk, open-leaves-disk}
use Rattle.touches.specs.Rows.{num_at-stays, side-stays}
use Rattle.lives.specs.Life.{Store, Done, open', step, After}
use Rattle.seen.specs.Seen.{place_of, Seen, Handled}
use Rattle.seen.specs.Orderly.{Orderly}
use Rattle.seen.specs.Lists.{record_same}
use Rattle.seen.specs.Same.{Same, seen_same, handled-same}
use Rattle.opened.specs.OpensFolders.{readied-other}
use Rattle.opened.specs.OpensPlaces.{listed_then, other_place, apart-place}
use Rattle.opened.specs.OpensServed.{ServedOpen, open-answer, open-served}
use Rattle.opened.specs.OpensOrder.{orderly-open}
use Rattle.opened.specs.OpensSeen.{step_opened, open-goes, own-seen, own-handled}

-- the memory of the cache that a tape gets: that of its place, else of the first free one
abbrev pub memory_at : List ℕ → Option ℕ → List ℕ
memory_at s (Some p) = ring_bytes s p
memory_at s None = []

abbrev pub open_memory : List ℕ → List ℕ → List ℕ
open_memory s wanted = memory_at s (place_for s (place_of s wanted))

-- ---- another tape

module _ (d s : List ℕ) (t : ℕ) (wanted : List ℕ) (entry fs cache start : ℕ) (e u : List ℕ) (orderly : Orderly d s) (sv : ServedOpen d s t wanted entry fs cache start e u) where
  same-other : (n : List ℕ) → n ≢ wanted → 0 < length n → Same d s e u n
  same-other n differs some =
      let rows = sv.rows in
      let p = sv.place in
      let o = opened s wanted entry fs cache start in
      let bs = cached_bytes d wanted o in
      record {
        epoch = ap (λ (h : Head). h.epoch) rows.head;
        cut = ap (λ (h : Head). h.cut) rows.head;
        last = ap (λ (h : Head). h.last_transaction) rows.head;
        place = other_place d s u p wanted o bs orderly sv.low sv.shaped.name-some sv.opens.place rows n differs some;
        transactions = rows.transactions;
        tape = λ q at.
            let low = name-low s names_at n q at in
            let apart = apart-place d s u p wanted o bs orderly sv.low sv.shaped.name-some sv.opens.place rows n differs some q at in
            record {
              view = λ w l. rows.views w q l low;
              handle = rows.handles q low apart;
              ring = rows.rings q low apart;
              cache = rows.caches q low apart;
              staged = rows.stageds q low apart;
            };
        files = readied-other (areas d s) (areas e u) wanted o _ sv.readied n differs some;
      }

-- ---- left and right

module _ (d s : List ℕ) (t : ℕ) (wanted : List ℕ) (entry fs cache start : ℕ) (sound : D.Sound d) where
  abbrev e : List ℕ
  e = (open_call d s t wanted entry fs cache start).disk

  side_same : (side : Side) → side_bytes e side ≡ side_bytes d side
  side_same Left =
      let leaves = open-leaves-disk d s t wanted entry fs cache start in
      side-stays 288 1312 d e leaves.sides-stay (open-touches-disk d s t wanted entry fs cache start).long Left
      (num_at-stays 0 32 d e leaves.fields-stay 8 16 (omega arith) (omega arith)) sound.head.left (omega arith) (omega arith)
  side_same Right =
      let leaves = open-leaves-disk d s t wanted entry fs cache start in
      side-stays 288 1312 d e leaves.sides-stay (open-touches-disk d s t wanted entry fs cache start).long Right
      (num_at-stays 0 32 d e leaves.fields-stay 8 24 (omega arith) (omega arith)) sound.head.right (omega arith) (omega arith)

-- ---- the call

module _ (d s : List ℕ) (t : ℕ) (wanted : List ℕ) (entry fs cache start : ℕ) (orderly : Orderly d s) (new : Bytes wanted) (small : start < 2 ^ 64)
    (served : code_of (open_call d s t wanted entry fs cache start).answer ≡ 0) where
  abbrev after_disk : List ℕ
  after_disk = (open_call d s t wanted entry fs cache start).disk

  abbrev after_session : List ℕ
  after_session = (open_call d s t wanted entry fs cache start).session

  sv : ServedOpen d s t wanted entry fs cache start after_disk after_session
  sv = open-served d s t wanted entry fs cache start orderly new small served

  -- its answer is the next handle's number
  pub open-answers : (open_call d s t wanted entry fs cache start).answer ≡ Ok ((head_of s).last_handle + 1)
  open-answers = open-answer d s t wanted entry fs cache start orderly new small served

  pub open-orderly : Orderly after_disk after_session
  open-orderly =
      let both = open-sound d s t wanted entry fs cache start sv.both in
      let bytes = open-bytes d s t wanted entry fs cache start orderly.disk-bytes orderly.session-bytes new in
      orderly-open d s t wanted entry fs cache start after_disk after_session orderly sv (usable-disk after_disk after_session both) (usable-begun after_disk after_session both)
      bytes.0 bytes.1 (record_same d after_disk (side_same d s t wanted entry fs cache start orderly.disk))
      (open-level d s orderly.session-bytes t wanted entry fs cache start orderly.disk orderly.level)

  -- the writer is still the append, so what is said of a truncate alone holds
  pub open-writer : (transaction_of after_session 16).kind ≡ K.Append
  open-writer = ap (λ (r : Transaction). r.kind) (sv.rows.transactions 16 (omega arith)) ∙ sv.kind

  -- ---- every other tape

  module _ (n : List ℕ) (differs : n ≢ wanted) (some : 0 < length n) where
    pub open-seen-other : (st : Store) → Seen d s n st → Seen after_disk after_session n st
    open-seen-other st = seen_same d s after_disk after_session n st (same-other d s t wanted entry fs cache start after_disk after_session orderly sv n differs some)

    pub open-handled-other : (handle size : ℕ) → Handled s n handle size → Handled after_session n handle size
    open-handled-other handle size =
        handled-same d s after_disk after_session n handle size (same-other d s t wanted entry fs cache start after_disk after_session orderly sv n differs some)

  -- ---- its own tape

  pub open-handled : Handled after_session wanted ((head_of s).last_handle + 1) entry
  open-handled = own-handled d s t wanted entry fs cache start after_disk after_session orderly sv

  module _ (st : Store) (seen : Seen d s wanted st) where
    pub open-listed : (view_found s (place_of s wanted)).listed ≡ st.listed
    unfolding is_open_at
    open-listed = listed_then d s wanted orderly (rw sv.kind) ∙ ap (λ (x : View). x.listed) seen.list

    module _ (reopened : st.listed ≡ true → fs ≡ st.size) where
      steps : step (open' t fs cache start (open_memory s wanted)) st ≡ step_opened d s t wanted entry fs cache start after_disk after_session orderly sv st seen
      steps =
          ap (λ (f : Option ℕ). step (open' t fs cache start (memory_at s f)) st) sv.opens.place
          ∙ open-goes d s t wanted entry fs cache start after_disk after_session orderly sv st seen (λ known. reopened (sym open-listed ∙ known))

      pub open-seen : Seen after_disk after_session wanted (step (open' t fs cache start (open_memory s wanted)) st).store
      open-seen =
          subst (λ (a : After). Seen after_disk after_session wanted a.store) (sym steps)
          (own-seen d s t wanted entry fs cache start after_disk after_session orderly sv st seen)

      pub open-steps : (step (open' t fs cache start (open_memory s wanted)) st).answer ≡ Done 1
      open-steps = ap (λ (a : After). a.answer) steps
