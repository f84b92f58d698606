-- Laws of replies: how long a reply's text, a line's field and a line that says something are at most, the reply by what the line says, that a read changes
-- no area, and that the contract leaves nothing open. Assumes nothing.
use Rattle.std.specs.Prelude.{◌≡◌, refl, Option, Some, None, Ok, Err, Bool, true, false, List, [], ◌∷◌, ℕ, zero, suc, ◌+◌, ◌*◌, ◌/◌, ◌≤◌, ◌<◌, eqb, ltb, get_or, take}
use Rattle.std.proofs.Common.{sym, ◌∙◌, true≢false, arith, ltb-false, lt-ltb, length-append, length-take}
use Rattle.std.proofs.Math.Path.{ap}
use Rattle.std.proofs.Math.ListN.{length}
use Rattle.octets.specs.Cases.{picked, order}
use Rattle.octets.specs.Bytes.{put, part-put}
use Rattle.layout.specs.Session.{begun, entry_size_of}
use Rattle.session.specs.Rows.{find_handle}
use Rattle.answers.specs.Answers.{code_of, value_of}
use Rattle.answers.specs.Outcome.{Outcome, outcome, Reading}
use Rattle.answers.specs.Answers.{Answer}
use Rattle.entries.specs.Reads.{read_call}
use Rattle.lines.specs.Fields.{in_front, fields}
use Rattle.lines.specs.Hex.{hex_bytes}
use Rattle.lines.specs.HexLaws.{length-bytes}
use Rattle.lines.specs.Calls.{call_of}
use Rattle.lines.specs.CallLaws.{call_long}
use Rattle.lines.specs.Reply.{reply_of, unreadable_reply}
use Rattle.lines.specs.ReplyLaws.{length-tabbed, length-text}
use Rattle.lines.specs.declared.calls.Call.{Call}
use Rattle.lines.specs.declared.calls.Call.TheVariants.{Format, Store, Append, Reader, Truncate, Open, Put, Shift, Cut, Read, Commit, Drop}
use Rattle.replies.specs.Replies.{Replied, replied, made, kept, told, makes, entry_for, shown, read_text, reads, reply_for, reply_to, Happened}

-- ---- the text of a reply

pub reply-length : (number code value : ℕ) (bytes : List ℕ) → length (reply_of number code value bytes) ≤ 65 + length bytes * 2
unfolding reply_of
reply-length number code value bytes =
    simp length-append
    (omega
    (arith, simp length-append at (length-tabbed number), simp length-append at (length-tabbed code), simp length-append at (length-tabbed value), length-text bytes))

pub unreadable-length : (number : ℕ) → length (unreadable_reply number) ≤ 27
unfolding unreadable_reply
unreadable-length number = simp length-append (omega (arith, simp length-append at (length-tabbed number)))

shown-length : (a : Answer) (n : ℕ) (buffer : List ℕ) → length (shown a n buffer) ≤ n
shown-length (Ok v) n buffer = rw length-take (omega arith)
shown-length (Err why) n buffer = omega arith

text-length : (number n : ℕ) (r : Reading) → n ≤ 4096
    → length (reply_of number (code_of r.answer) (value_of r.answer) (shown r.answer n r.buffer)) ≤ 8260
text-length number n r l =
    omega (arith, reply-length number (code_of r.answer) (value_of r.answer) (shown r.answer n r.buffer), shown-length r.answer n r.buffer)

-- ---- the fields of a line

front_length : (b : ℕ) (fs : List (List ℕ)) (n : ℕ) → ((j : ℕ) → length (get_or fs j []) ≤ n) → (k : ℕ)
    → length (get_or (in_front b fs) k []) ≤ suc n
unfolding in_front
front_length b [] n h zero = omega arith
front_length b [] n h (suc k) = omega arith
front_length b (f ∷ fs) n h zero = omega (arith, h 0)
front_length b (f ∷ fs) n h (suc k) = omega (arith, h (suc k))

tab-length : (fs : List (List ℕ)) (n : ℕ) → ((j : ℕ) → length (get_or fs j []) ≤ n) → (k : ℕ) → length (get_or ([] ∷ fs) k []) ≤ suc n
tab-length fs n h zero = omega arith
tab-length fs n h (suc k) = omega (arith, h k)

pub field-length : (line : List ℕ) (k : ℕ) → length (get_or (fields line) k []) ≤ length line
unfolding fields
field-length [] zero = omega arith
field-length [] (suc k) = omega arith
field-length (b ∷ s) k =
    picked (λ fs. length (get_or fs k []) ≤ suc (length s)) (eqb b 9) ([] ∷ fields s) (in_front b (fields s))
    (λ e. tab-length (fields s) (length s) (field-length s) k)
    (λ e. front_length b (fields s) (length s) (field-length s) k)

-- ---- a line that says something

pub call-short : (line : List ℕ) → (call_of line ≡ None → ⊥) → length line ≤ 8500
call-short line d = order 8500 (length line) (λ (l : 8500 < length line). absurd (d (call_long line l))) (λ (l : length line ≤ 8500). l)

-- whether a line asks for a call other than a read
abbrev pub asks : Option Call → Bool
asks (Some Format) = true
asks (Some Store) = true
asks (Some Append) = true
asks (Some Reader) = true
asks (Some Truncate) = true
asks (Some (Open t e f c start)) = true
asks (Some (Put t h)) = true
asks (Some (Shift t h i)) = true
asks (Some (Cut t h n)) = true
asks (Some (Read t h i n)) = false
asks (Some (Commit t)) = true
asks (Some (Drop t)) = true
asks None = false

pub asks-short : (line : List ℕ) → asks (call_of line) ≡ true → length line ≤ 8500
asks-short line a = call-short line (λ e. true≢false (sym a ∙ ap asks e))

-- ---- the entry size of a handle

module _ (s : List ℕ) (h : ℕ) where
  pub entry-none : begun s ≡ false → entry_for s h ≡ 1
  unfolding entry_for
  entry-none e = rw e

  pub entry-unknown : begun s ≡ true → find_handle s h ≡ None → entry_for s h ≡ 1
  unfolding entry_for
  entry-unknown b e = rw (b, e)

  pub entry_known : (p : ℕ) → begun s ≡ true → find_handle s h ≡ Some p → entry_for s h ≡ entry_size_of s p
  unfolding entry_for
  entry_known p b e = rw (b, e)

-- ---- the read

module _ (d s : List ℕ) (number : ℕ) (space : List ℕ) (t h i n : ℕ) where
  pub read-long : ltb 4096 (n * entry_for s h) ≡ true → reads d s number space t h i n ≡ replied d s space (unreadable_reply number)
  unfolding reads
  read-long e = rw e

  pub read_short : (r : Reading) → ltb 4096 (n * entry_for s h) ≡ false → read_call d s t h i n space ≡ r
      → reads d s number space t h i n ≡ read_text d s number (n * entry_for s h) r
  unfolding reads
  read_short r e q = rw (e, q)

  -- a read changes no area
  pub read-disk : (reads d s number space t h i n).disk ≡ d
  unfolding reads
  read-disk = picked (λ (r : Replied). r.disk ≡ d) (ltb 4096 (n * entry_for s h)) _ _ (λ e. refl) (λ e. refl)

  pub read-session : (reads d s number space t h i n).session ≡ s
  unfolding reads
  read-session = picked (λ (r : Replied). r.session ≡ s) (ltb 4096 (n * entry_for s h)) _ _ (λ e. refl) (λ e. refl)

  pub read_length : length (reads d s number space t h i n).text ≤ 8260
  unfolding reads
  read_length =
      picked (λ (r : Replied). length r.text ≤ 8260) (ltb 4096 (n * entry_for s h)) _ _
      (λ e. omega (arith, unreadable-length number))
      (λ e. text-length number (n * entry_for s h) (read_call d s t h i n space) (ltb-false 4096 (n * entry_for s h) e))

-- ---- the bytes of a put

pub hex-front : (space hex : List ℕ) → length hex / 2 ≤ length space → take (length hex / 2) (put space 0 (hex_bytes hex)) ≡ hex_bytes hex
hex-front space hex h = rw (← length-bytes hex) (part-put space 0 (hex_bytes hex) (rw length-bytes (omega arith)))

-- ---- the reply to a line, by what it says

made-for : (d s : List ℕ) (number : ℕ) (line space : List ℕ) (call : Option Call) → asks call ≡ true
    → reply_for d s number line space call ≡ makes d s number line space call
made-for d s number line space (Some Format) a = refl
made-for d s number line space (Some Store) a = refl
made-for d s number line space (Some Append) a = refl
made-for d s number line space (Some Reader) a = refl
made-for d s number line space (Some Truncate) a = refl
made-for d s number line space (Some (Open t e f c start)) a = refl
made-for d s number line space (Some (Put t h)) a = refl
made-for d s number line space (Some (Shift t h i)) a = refl
made-for d s number line space (Some (Cut t h n)) a = refl
made-for d s number line space (Some (Read t h i n)) a = absurd (true≢false (sym a))
made-for d s number line space (Some (Commit t)) a = refl
made-for d s number line space (Some (Drop t)) a = refl
made-for d s number line space None a = absurd (true≢false (sym a))

module _ (d s : List ℕ) (number : ℕ) (line space : List ℕ) where
  pub reply-unreadable : call_of line ≡ None → reply_to d s number line space ≡ replied d s space (unreadable_reply number)
  unfolding reply_to
  reply-unreadable e = rw e

  pub reply-read : (t h i n : ℕ) → call_of line ≡ Some (Read t h i n) → reply_to d s number line space ≡ reads d s number space t h i n
  unfolding reply_to
  reply-read t h i n e = rw e

  -- a read that is too long is unreadable, also where it would be refused
  pub unreadable-first : (t h i n : ℕ) → call_of line ≡ Some (Read t h i n) → 4096 < n * entry_for s h
      → reply_to d s number line space ≡ replied d s space (unreadable_reply number)
  unreadable-first t h i n e l = reply-read t h i n e ∙ read-long d s number space t h i n (lt-ltb 4096 (n * entry_for s h) l)

  pub reply-made : (a : Answer) (d₁ s₁ : List ℕ) → asks (call_of line) ≡ true → made d s line (call_of line) ≡ outcome a d₁ s₁
      → reply_to d s number line space ≡ replied d₁ s₁ (kept line space (call_of line)) (reply_of number (code_of a) (value_of a) [])
  unfolding reply_to
  reply-made a d₁ s₁ asked e = made-for d s number line space (call_of line) asked ∙ ap (λ (o : Outcome). told number (kept line space (call_of line)) o) e

-- ---- two results that satisfy the contract of `reply` are the same areas, space, length and text

module _ (r : Replied) (d d' s s' b b' out : List ℕ) (n n' : ℕ) (t t' : List ℕ) where
  pub reply-unique : Happened r d s b out n t → Happened r d' s' b' out n' t' → (d ≡ d') × ((s ≡ s') × ((b ≡ b') × ((n ≡ n') × (t ≡ t'))))
  reply-unique h k = (
    h.disk ∙ sym k.disk,
    (
      h.session ∙ sym k.session,
      (h.space ∙ sym k.space, (h.text.0 ∙ sym k.text.0, h.text.1 ∙ sym k.text.1)),
    ),
  )
