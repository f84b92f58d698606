-- Laws of `store`: a refused one changes nothing; a served one leaves a session that keeps the rule, and means the list of the record that counts. That
-- its numbers are 64-bit ones is known since they are read from bytes. Assumes nothing.
use Prim.{tt}
use Rattle.std.specs.Prelude.{◌≡◌, refl, ◌≢◌, true, drop, Option, Some, None, Ok}
use Rattle.std.proofs.Common.{sym, ap, subst, ◌∙◌, arith}
use mathlib.Core.List.{List, [], ◌∷◌}
use Prim.Native.Nat.{ℕ, zero, suc, ◌+◌, ◌≤◌, ◌<◌, ◌^◌}
use Rattle.std.proofs.Math.ListN.{length, replicate, length-replicate}
use Rattle.octets.specs.Cases.{picked, decide, order}
use Rattle.octets.specs.Bytes.{put, length-put}
use Rattle.octets.specs.Number.{put_num, length-put_num, Bytes, bytes_take, bytes_drop, bytes-zeros, num_at-lt}
use Rattle.octets.specs.Only.{bytes-put, bytes-put_num}
use Rattle.answers.specs.Answers.{code_of}
use Rattle.answers.specs.declared.Refusal.{Refusal}
use Rattle.answers.specs.declared.Refusal.TheVariants.{Unusable, BadList}
use Rattle.metadata.specs.Tapes.{Tape, good_after, good_list}
use Rattle.metadata.specs.Decoding.{Listing, tapes, unreadable}
use Rattle.metadata.specs.Record.{read_record}
use Rattle.metadata.specs.Choice.{part_of, left_counts, chosen, next_side, chosen_epoch, chosen_list}
use Rattle.metadata.specs.Rules.{fits-true, good-first, good_others, good-few, good-tapes}
use Rattle.metadata.specs.RecordLaws.{none-epoch, none_list, some-epoch, some-list}
use Rattle.metadata.specs.RoundTrip.{Sizes, decode-good, decode-sizes}
use Rattle.metadata.specs.declared.record.Record.{Record}
use Rattle.metadata.specs.declared.choice.Side.{Side}
use Rattle.metadata.specs.declared.choice.Side.TheVariants.{Left, Right}
use Rattle.layout.specs.Names.{put_name}
use Rattle.layout.specs.NamesLaws.{only-put_name, bytes-put_name}
use Rattle.layout.specs.Session.{mark, session_bytes, names_at, Begun}
use Rattle.layout.specs.SessionLaws.{sound-long}
use Rattle.disk.specs.Steps.{side_at, side_len, side_bytes}
use Rattle.session.specs.declared.views.View.{View}
use Rattle.session.specs.Rows.{put_view}
use Rattle.session.specs.RowLaws.{only-put_view}
use Rattle.session.specs.KeepLaws.{bytes-put_head, bytes-put_view}
use Rattle.session.specs.Begin.{cleared, listed, listed_from, begin_session}
use Rattle.session.specs.BeginLaws.{Listable, AllListable, AllShort, new_head, started, length-cleared, session-begin, begun-begin}
use Rattle.session.specs.Meaning.{Session, session_of}
use Rattle.beginning.specs.Transactions.{After, after, refused}
use Rattle.beginning.specs.Sessions.{both_sound, the_record, start_with, store_call}
use Rattle.beginning.specs.Ways.{both-session, store-unusable, store-starts}
use Rattle.beginning.specs.Laws.{refusal-some}

-- ---- what is read of a disk's bytes

bytes-side : (d : List ℕ) (side : Side) → Bytes d → Bytes (side_bytes d side)
unfolding side_bytes
bytes-side d side b = bytes_take (side_len d side) (drop (side_at side) d) (bytes_drop (side_at side) d b)

bytes-part : (s : List ℕ) (r : Option Record) → Bytes s → Bytes (part_of s r)
bytes-part s (Some r) b = bytes_take (48 + r.list_len) s b
bytes-part s None b = λ i. omega arith

pub bytes-record : (d : List ℕ) → Bytes d → Bytes (the_record d)
unfolding chosen
bytes-record d b =
    let left = side_bytes d Left in
    let right = side_bytes d Right in
    picked Bytes (left_counts left right) (part_of left (read_record left)) (part_of right (read_record right))
    (λ e. bytes-part left (read_record left) (bytes-side d Left b))
    (λ e. bytes-part right (read_record right) (bytes-side d Right b))

module _ (r : List ℕ) (bytes : Bytes r) where
  pub epoch-fits : chosen_epoch r < 256 ^ 8
  epoch-fits =
      order (length r) 48
      (λ (l : length r < 48). rw (none-epoch r l) (omega arith))
      (λ (l : 48 ≤ length r). rw (some-epoch r l) (num_at-lt 8 r 36 bytes))

-- ---- a list that was read is good, and fits a session

pub list-good : (r : List ℕ) (ts : List Tape) → chosen_list r ≡ tapes ts → good_list ts ≡ true
unfolding good_list good_after
list-good r ts e =
    order (length r) 48
    (λ (l : length r < 48). let q : tapes [] ≡ tapes ts = sym (none_list r l) ∙ e in let blank : [] ≡ ts = cc in rw (← blank))
    (λ (l : 48 ≤ length r). decode-good (drop 48 r) ts (sym (some-list r l) ∙ e))

sizes-read : (r : List ℕ) (ts : List Tape) → Bytes r → chosen_list r ≡ tapes ts → Sizes ts
sizes-read r ts bytes e =
    order (length r) 48
    (λ (l : length r < 48). let q : tapes [] ≡ tapes ts = sym (none_list r l) ∙ e in let blank : [] ≡ ts = cc in subst Sizes blank tt)
    (λ (l : 48 ≤ length r). decode-sizes (drop 48 r) ts (bytes_drop 48 r bytes) (sym (some-list r l) ∙ e))

listable : (before : List ℕ) (ts : List Tape) → good_after before ts ≡ true → Sizes ts → AllListable ts
listable before [] good sizes i t e = let z : ◌≡◌ {A = ℕ} 0 1 = cc in absurd (omega arith)
listable before (u ∷ ts) good sizes zero t e =
    let f = fits-true before u (good-first before u ts good) in
    let len : u.len < 2 ^ 64 = sizes.0 in
    let same : u ≡ t = cc in
    subst Listable same (record { short = f.short; len = omega arith; start = omega arith })
listable before (u ∷ ts) good sizes (suc i) t e = listable u.name ts (good_others before u ts good) sizes.1 i t e

short-names : (before : List ℕ) (ts : List Tape) → good_after before ts ≡ true → AllShort ts
short-names before [] good i t e = let z : ◌≡◌ {A = ℕ} 0 1 = cc in absurd (omega arith)
short-names before (u ∷ ts) good zero t e =
    let same : u ≡ t = cc in
    subst (λ (x : Tape). length x.name ≤ 24) same (fits-true before u (good-first before u ts good)).short
short-names before (u ∷ ts) good (suc i) t e = short-names u.name ts (good_others before u ts good) i t e

-- its tapes put into their places: bytes stay bytes
bytes-put-list : (s : List ℕ) (p : ℕ) (before : List ℕ) (ts : List Tape) → session_bytes ≤ length s → Bytes s → p + length ts ≤ 8 → good_after before ts ≡ true
    → Bytes (listed_from s p ts)
unfolding listed_from listed
bytes-put-list s p before [] long b few good = b
bytes-put-list s p before (t ∷ ts) long b few good =
    let f = fits-true before t (good-first before t ts good) in
    let v : View = record { listed = true; len = t.len; start = t.start } in
    let named = put_name s names_at p t.name in
    let l₁ : length named ≡ length s = (only-put_name s names_at p t.name f.short).long in
    let l₂ : length (put_view named 17 p v) ≡ length named = (only-put_view named 17 p v).long in
    let low : p < 8 = omega arith in
    bytes-put-list (put_view named 17 p v) (p + 1) t.name ts (omega arith)
    (bytes-put_view named (bytes-put_name s names_at p t.name b f.bytes (omega arith) low f.short) 17 p v (omega arith))
    (omega arith) (good_others before t ts good)

module _ (s : List ℕ) (long : session_bytes ≤ length s) (epoch : ℕ) (side : Side) (ts : List Tape) (good : good_list ts ≡ true) where
  bytes-cleared : Bytes s → Bytes (cleared s epoch side)
  unfolding cleared
  bytes-cleared b =
      let zeros : List ℕ = replicate 5960 0 in
      let n : length zeros ≡ 5960 = length-replicate {A = ℕ} 5960 0 in
      let blank = put s 0 zeros in
      let l₁ : length blank ≡ length s = length-put s 0 zeros in
      let marked = put_num 8 blank 0 mark in
      let l₂ : length marked ≡ length blank = length-put_num 8 blank 0 mark in
      bytes-put_head marked (bytes-put_num 8 blank 0 mark (omega arith) (bytes-put s 0 zeros (omega arith) b (bytes-zeros 5960))) (new_head epoch side) (omega arith)

  bytes-start : Bytes s → Bytes (begin_session s epoch side ts)
  unfolding begin_session
  bytes-start b =
      let same : length (cleared s epoch side) ≡ length s = length-cleared s long epoch side in
      bytes-put-list (cleared s epoch side) 0 [] ts (omega arith) (bytes-cleared b) (omega (arith, good-few ts good)) (good-tapes ts good)

-- ---- what holds of each way out holds of the call

abbrev pub started_after : List ℕ → List ℕ → List Tape → After
started_after d s ts =
    after (Ok (chosen_epoch (the_record d))) (begin_session s (chosen_epoch (the_record d)) (next_side (side_bytes d Left) (side_bytes d Right)) ts)

pub store-cases : (P : After → Type 0) (d s : List ℕ) → ((why : Refusal) → P (refused why s))
    → ((ts : List Tape) → both_sound d s ≡ true → chosen_list (the_record d) ≡ tapes ts → P (started_after d s ts)) → P (store_call d s)
store-cases P d s stays goes =
    decide (both_sound d s)
    (λ ok. subst P (sym (store-starts d s ok)) (by ok (chosen_list (the_record d)) refl))
    (λ bad. subst P (sym (store-unusable d s bad)) (stays Unusable))
  where
    by : both_sound d s ≡ true → (l : Listing) → chosen_list (the_record d) ≡ l → P (start_with d s l)
    by ok (tapes ts) e = goes ts ok e
    by ok unreadable e = stays BadList

module _ (d s : List ℕ) where
  pub store-refused : code_of (store_call d s).answer ≢ 0 → (store_call d s).session ≡ s
  store-refused = store-cases (λ o. code_of o.answer ≢ 0 → o.session ≡ s) d s (λ why r. refl) (λ ts ok e r. absurd (r refl))

  pub store-begun : code_of (store_call d s).answer ≡ 0 → Begun (store_call d s).session
  store-begun =
      store-cases (λ o. code_of o.answer ≡ 0 → Begun o.session) d s
      (λ why e. absurd (refusal-some why e))
      (λ ts ok list e.
      let good = list-good (the_record d) ts list in
      begun-begin s (sound-long s (both-session d s ok)) _ _ ts (good-few ts good) (short-names [] ts (good-tapes ts good)))

  pub store_bytes : Bytes s → Bytes (store_call d s).session
  store_bytes b =
      store-cases (λ o. Bytes o.session) d s (λ why. b)
      (λ ts ok list. bytes-start s (sound-long s (both-session d s ok)) (chosen_epoch (the_record d)) (next_side (side_bytes d Left) (side_bytes d Right)) ts (list-good (the_record d) ts list) b)

  -- the list is the one that was read, and nothing is left of the session before but the caches' bytes
  pub store-means : Bytes d → (ts : List Tape) → chosen_list (the_record d) ≡ tapes ts → code_of (store_call d s).answer ≡ 0
      → session_of (store_call d s).session ≡ started (session_of s).cache (chosen_epoch (the_record d)) (next_side (side_bytes d Left) (side_bytes d Right)) ts
  store-means bytes ts list =
      let r = the_record d in
      let new : List Tape → Session = started (session_of s).cache (chosen_epoch r) (next_side (side_bytes d Left) (side_bytes d Right)) in
      store-cases (λ o. code_of o.answer ≡ 0 → session_of o.session ≡ new ts) d s
      (λ why e. absurd (refusal-some why e))
      (λ us ok read e.
      let b = bytes-record d bytes in
      let good = list-good r us read in
      let q : tapes us ≡ tapes ts = sym read ∙ list in
      let same : us ≡ ts = cc in
      session-begin s (sound-long s (both-session d s ok)) _ _ us (good-few us good) (listable [] us (good-tapes us good) (sizes-read r us b read)) (epoch-fits r b)
      ∙ ap new same)
