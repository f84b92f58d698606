-- A served open leaves the areas in order: its tape gets the next handle's number, in its own place or in a free one, and has a directory. Assumes nothing.
use Rattle.std.specs.Prelude.{◌≡◌, ◌≢◌, true, false, List, ℕ, ◌≤◌, ◌<◌, length}
use Rattle.std.proofs.Common.{sym, ap, ◌∙◌, true≢false, arith}
use Rattle.octets.specs.Cases.{decide, equal}
use Rattle.octets.specs.Compare.{same_bytes, same_true, same_refl}
use Rattle.octets.specs.Number.{Bytes}
use Rattle.layout.specs.Names.{name}
use Rattle.layout.specs.NamesLaws.{name-low}
use Rattle.layout.specs.Disk as D
use Rattle.layout.specs.Session.{names_at, handle_number, Begun}
use Rattle.session.specs.declared.head.Head.{Head}
use Rattle.session.specs.Rows.{head_of}
use Rattle.session.specs.RowLaws.{handle-numbered}
use Rattle.rolling_tape.specs.Room.{is_found}
use Rattle.beginning.specs.Sessions.{the_record}
use Rattle.beginning.specs.Transactions.{is_open_at}
use Rattle.staging.specs.Seeing.{directory_of}
use Rattle.opening.specs.Calls.{cached_bytes, next_handle, opened}
use Rattle.opening.specs.declared.shape.Opening.{Opening}
use Rattle.ending.specs.CommitDurable.{Level}
use Rattle.seen.specs.Seen.{place_of, view_in}
use Rattle.seen.specs.Orderly.{Orderly}
use Rattle.seen.specs.Rows.{number-row, open_row, view-rows, open-named}
use Rattle.seen.specs.Lists.{recorded-as}
use Rattle.opened.specs.OpensPlaces.{only_here, other_place, own-list}
use Rattle.opened.specs.OpensServed.{ServedOpen}

module _ (d s : List ℕ) (t : ℕ) (wanted : List ℕ) (entry fs cache start : ℕ) (e u : List ℕ) (orderly : Orderly d s) (sv : ServedOpen d s t wanted entry fs cache start e u) where
  open sv use {place as p, rows}

  abbrev o : Opening
  o = opened s wanted entry fs cache start

  abbrev bs : List ℕ
  bs = cached_bytes d wanted o

  -- ---- handles

  pub own-number : handle_number u p ≡ next_handle s
  own-number = sym (handle-numbered u p _ (sym rows.own-handle))

  pub other-number : (q : ℕ) → q < 8 → q ≢ p → handle_number u q ≡ handle_number s q
  other-number q l apart = number-row s u q (rows.handles q l apart)

  last-handle : (head_of u).last_handle ≡ next_handle s
  last-handle = ap (λ (h : Head). h.last_handle) rows.head

  last-transaction : (head_of u).last_transaction ≡ (head_of s).last_transaction
  last-transaction = ap (λ (h : Head). h.last_transaction) rows.head

  -- a handle that another place has is an older one
  older-number : (q : ℕ) → q < 8 → q ≢ p → handle_number u q ≢ next_handle s
  older-number q l apart z = omega (arith, orderly.handle-given q l, other-number q l apart)

  handles-apart : (q r : ℕ) → q < 8 → r < 8 → handle_number u q ≢ 0 → handle_number u q ≡ handle_number u r → q ≡ r
  handles-apart q r lq lr some same =
      equal q p
      (λ (at : q ≡ p).
      equal r p
      (λ (too : r ≡ p). at ∙ sym too)
      (λ (apart : r ≢ p). absurd (older-number r lr apart (sym same ∙ ap (handle_number u) at ∙ own-number))))
      (λ (apart : q ≢ p).
      equal r p
      (λ (at : r ≡ p). absurd (older-number q lq apart (same ∙ ap (handle_number u) at ∙ own-number)))
      (λ (too : r ≢ p).
      orderly.handles q r lq lr (λ z. some (other-number q lq apart ∙ z)) (sym (other-number q lq apart) ∙ same ∙ other-number r lr too)))

  handles-given : (q : ℕ) → q < 8 → handle_number u q ≤ (head_of u).last_handle
  handles-given q l =
      equal q p
      (λ (at : q ≡ p). rw at (omega (arith, own-number, last-handle)))
      (λ (apart : q ≢ p). omega (arith, other-number q l apart, orderly.handle-given q l, last-handle))

  -- a place without a handle is another
  shut_apart : (q : ℕ) → handle_number u q ≡ 0 → q ≢ p
  shut_apart q shut at = omega (arith, own-number, ap (handle_number u) (sym at) ∙ shut)

  -- ---- names

  free-apart : (q : ℕ) → length (name u names_at q) ≡ 0 → q ≢ p
  free-apart q free at = omega (arith, sv.shaped.name-some, ap length rows.own_name, ap (λ (i : ℕ). length (name u names_at i)) (sym at))

  names_apart : (q r : ℕ) → q < 8 → r < 8 → 0 < length (name u names_at q) → name u names_at q ≡ name u names_at r → q ≡ r
  names_apart q r lq lr some same =
      let here = only_here d s u p wanted o bs orderly sv.low sv.shaped.name-some sv.opens.place rows in
      equal q p
      (λ (at : q ≡ p).
      equal r p
      (λ (too : r ≡ p). at ∙ sym too)
      (λ (apart : r ≢ p). at ∙ sym (here r lr (sym (rows.names r lr apart) ∙ sym same ∙ ap (name u names_at) at ∙ rows.own_name))))
      (λ (apart : q ≢ p).
      equal r p
      (λ (at : r ≡ p). here q lq (sym (rows.names q lq apart) ∙ same ∙ ap (name u names_at) at ∙ rows.own_name) ∙ sym at)
      (λ (too : r ≢ p). orderly.names q r lq lr (rw (rows.names q lq apart) at some) (sym (rows.names q lq apart) ∙ same ∙ rows.names r lr too)))

  -- ---- directories

  -- an open tape in another place has another name, and its directory stands where it stood
  pub name-other : (q : ℕ) → q < 8 → q ≢ p → handle_number s q ≢ 0 → (name s names_at q ≢ wanted) × (0 < length (name s names_at q))
  name-other q l apart held = (
    (λ z. apart (only_here d s u p wanted o bs orderly sv.low sv.shaped.name-some sv.opens.place rows q l z)),
    open-named d s orderly q l held,
  )

  pub folder-same : (q : ℕ) → q < 8 → q ≢ p → handle_number s q ≢ 0 → directory_of e u q ≡ directory_of d s q
  folder-same q l apart held =
      let other = name-other q l apart held in
      rw (rows.names q l apart) (sv.readied.names (name s names_at q) other.0 other.1)

  folder-of : (q : ℕ) → q < 8 → handle_number u q ≢ 0 → is_found (directory_of e u q) ≡ true
  folder-of q l held =
      equal q p
      (λ (at : q ≡ p). rw (at, rows.own_name, sv.readied.found))
      (λ (apart : q ≢ p).
      let was : handle_number s q ≢ 0 = λ z. held (other-number q l apart ∙ z) in
      rw (folder-same q l apart was) (orderly.folder q l was))

  -- ---- what the list says of every name

  open_at_lem : (v : ℕ) → v < 17 → is_open_at u v ≡ is_open_at s v
  open_at_lem v l = open_row s u v (rows.transactions v l)

  writer-open : is_open_at s 16 ≡ true
  unfolding is_open_at
  writer-open = rw sv.kind

  says_of : (n : List ℕ) → 0 < length n → view_in u 17 (place_of u n) ≡ view_in s 17 (place_of s n)
  says_of n some =
      decide (same_bytes n wanted)
      (λ same. rw (same_true n wanted same) (own-list d s u p wanted o bs orderly sv.low sv.shaped.name-some sv.opens.place rows))
      (λ (other : same_bytes n wanted ≡ false).
      let differs : n ≢ wanted = λ z. true≢false (sym (ap (λ (m : List ℕ). same_bytes m wanted) z ∙ same_refl wanted) ∙ other) in
      view-rows s u n (other_place d s u p wanted o bs orderly sv.low sv.shaped.name-some sv.opens.place rows n differs some) 17
      (λ q at. rows.views 17 q (omega arith) (name-low s names_at n q at)))

  module _ (sound : D.Sound e) (begun : Begun u) (disk-bytes : Bytes e) (session-bytes : Bytes u) (records : the_record e ≡ the_record d) (level : Level e u) where
    pub orderly-open : Orderly e u
    orderly-open =
        record {
          disk = sound;
          session = begun;
          disk-bytes = disk-bytes;
          session-bytes = session-bytes;
          once = sv.readied.changed.once;
          names = names_apart;
          folders = sv.readied.unique orderly.folders;
          handles = handles-apart;
          handle-given = handles-given;
          numbers = λ v w lv lw ov ow same.
              orderly.numbers v w lv lw (sym (open_at_lem v lv) ∙ ov) (sym (open_at_lem w lw) ∙ ow) (rw (rows.transactions v lv, rows.transactions w lw) at same);
          number-given = λ v lv ov. rw (rows.transactions v lv, last-transaction) (orderly.number-given v lv (sym (open_at_lem v lv) ∙ ov));
          free-shut = λ q l free.
              let apart = free-apart q free in
              other-number q l apart ∙ orderly.free-shut q l (rw (rows.names q l apart) at free);
          free-unlisted = λ q l free.
              let apart = free-apart q free in
              rw (rows.views 17 q (omega arith) l) (orderly.free-unlisted q l (rw (rows.names q l apart) at free));
          shut-untouched = λ q l shut.
              let apart = shut_apart q shut in
              rw (rows.stageds q l apart) (orderly.shut-untouched q l (sym (other-number q l apart) ∙ shut));
          idle-untouched = λ idle q l. absurd (true≢false (sym writer-open ∙ sym (open_at_lem 16 (omega arith)) ∙ idle));
          views = λ v lv ov q l listed.
              rw (rows.views 17 q (omega arith) l) (orderly.views v lv (sym (open_at_lem v (omega arith)) ∙ ov) q l (rw (rows.views v q (omega arith) l) at listed));
          writer-view = λ ov q l. rows.views 16 q (omega arith) l ∙ orderly.writer-view writer-open q l ∙ sym (rows.views 17 q (omega arith) l);
          writer-epoch = λ ov. rw (rows.transactions 16 (omega arith), rows.head) (orderly.writer-epoch writer-open);
          made-append = λ q l some made. rw (rows.transactions 16 (omega arith), sv.kind);
          made-touched = λ q l some made.
              equal q p
              (λ (at : q ≡ p). rw (at, rows.own-staged))
              (λ (apart : q ≢ p).
              rw (rows.stageds q l apart)
              (orderly.made-touched q l (λ z. some (other-number q l apart ∙ z)) (rw (rows.views 17 q (omega arith) l) at made)));
          folder = folder-of;
          recorded = recorded-as d s e u records (ap (λ (h : Head). h.epoch) rows.head) says_of orderly.recorded;
          level = level;
        }
