-- Laws of the disk's rule: its ways out in the code's order, and the rule as a test and as facts. Assumes nothing.
use Rattle.std.specs.Prelude.{◌≡◌, ◌≢◌, Bool, false, ◌&&◌, List, ℕ, ◌+◌, ◌-◌, ◌≤◌, ◌<◌, eqb, leb, length}
use Rattle.std.proofs.Common.{ap, ◌∙◌, arith}
use Rattle.std.proofs.Math.Bool.{true}
use borrow.Author.Tests.{le-leb, lt-leb, leb-true, eq-eqb, ne_eqb, eqb-true}
use Rattle.octets.specs.Number.{num_at}
use Rattle.octets.specs.Cases.{and_l, and_r}
use Rattle.octets.specs.First.{all, all_true, all-holds, all_split}
use Rattle.layout.specs.Names.{name_fits}
use Rattle.layout.specs.NamesLaws.{names-fit, fit-names}
use Rattle.layout.specs.Joined.{joined, joined-above}
use Rattle.layout.specs.Disk.{mark, directories, data_at, slots, left_len, right_len, owner, len, head_fits, entry_fits, sound, HeadSound, Sound}

-- ---- the head: a law for each way out

module _ (s : List ℕ) where
  pub too_small : length s < 2848 → head_fits s ≡ false
  unfolding head_fits
  too_small h = rw (lt-leb 2848 (length s) h)

  module _ (big : 2848 ≤ length s) where
    pub unmarked : num_at 8 s 0 ≢ mark → head_fits s ≡ false
    unfolding head_fits
    unmarked h = rw (le-leb 2848 (length s) big, ne_eqb (num_at 8 s 0) mark h)

    module _ (marked : num_at 8 s 0 ≡ mark) where
      pub no-slot : slots s < 1 → head_fits s ≡ false
      unfolding head_fits
      no-slot h = rw (le-leb 2848 (length s) big, eq-eqb (num_at 8 s 0) mark marked, lt-leb 1 (slots s) h)

      module _ (some : 1 ≤ slots s) where
        pub too_many : 64 < slots s → head_fits s ≡ false
        unfolding head_fits
        too_many h = rw (le-leb 2848 (length s) big, eq-eqb (num_at 8 s 0) mark marked, le-leb 1 (slots s) some, lt-leb (slots s) 64 h)

        module _ (few : slots s ≤ 64) where
          by-room : head_fits s ≡ (leb (data_at (slots s)) (length s) && (leb (left_len s) 512 && leb (right_len s) 512))
          unfolding head_fits
          by-room = rw (le-leb 2848 (length s) big, eq-eqb (num_at 8 s 0) mark marked, le-leb 1 (slots s) some, le-leb (slots s) 64 few)

          pub too_short : length s < data_at (slots s) → head_fits s ≡ false
          too_short h = by-room ∙ rw (lt-leb (data_at (slots s)) (length s) h)

          module _ (room : data_at (slots s) ≤ length s) where
            pub left-long : 512 < left_len s → head_fits s ≡ false
            left-long h = by-room ∙ rw (le-leb (data_at (slots s)) (length s) room, lt-leb (left_len s) 512 h)

            pub by_right : left_len s ≤ 512 → head_fits s ≡ leb (right_len s) 512
            by_right h = by-room ∙ rw (le-leb (data_at (slots s)) (length s) room, le-leb (left_len s) 512 h)

-- ---- an entry

module _ (s : List ℕ) (i : ℕ) where
  pub bad-owner : 8 < owner s i → entry_fits s i ≡ false
  bad-owner h = rw (lt-leb (owner s i) 8 h)

  pub by_length : owner s i ≤ 8 → entry_fits s i ≡ leb (len s i) 4096
  by_length o = rw (le-leb (owner s i) 8 o)

  pub good-entry : owner s i ≤ 8 → len s i ≤ 4096 → entry_fits s i ≡ true
  good-entry o h = rw (le-leb (owner s i) 8 o, le-leb (len s i) 4096 h)

-- ---- the owners of eight slots, joined: where the join fits, so does each

abbrev pub owners_joined : List ℕ → ℕ → ℕ
owners_joined s slot = joined (λ (i : ℕ). owner s (slot + i)) 8

pub joined_length : (s : List ℕ) (slot i : ℕ) → i < 8 → owners_joined s slot ≤ 8 → entry_fits s (slot + i) ≡ leb (len s (slot + i)) 4096
joined_length s slot i l h =
    let each : owner s (slot + i) ≤ owners_joined s slot = joined-above (λ (k : ℕ). owner s (slot + k)) 8 i l in
    by_length s (slot + i) (omega arith)

-- ---- the entries: the next eight, and those behind them

pub next-eight : (s : List ℕ) (n i : ℕ) (b : Bool) → i + 8 ≤ n → all (entry_fits s) 8 i ≡ b
    → all (entry_fits s) (n - i) i ≡ (b && all (entry_fits s) (n - (i + 8)) (i + 8))
next-eight s n i b low h =
    let e : n - i ≡ 8 + (n - (i + 8)) = omega arith in
    rw e (all_split (entry_fits s) 8 (n - (i + 8)) i) ∙ ap (λ (x : Bool). x && all (entry_fits s) (n - (i + 8)) (i + 8)) h

-- ---- the rule: a law for each way out

module _ (s : List ℕ) where
  pub bad-head : head_fits s ≡ false → sound s ≡ false
  unfolding sound
  bad-head h = rw h

  pub bad-names : head_fits s ≡ true → all (name_fits s directories) 8 0 ≡ false → sound s ≡ false
  unfolding sound
  bad-names h n = rw (h, n)

  pub by_entries : head_fits s ≡ true → all (name_fits s directories) 8 0 ≡ true → sound s ≡ all (entry_fits s) (slots s) 0
  unfolding sound
  by_entries h n = rw (h, n)

-- ---- tests and facts

module _ (s : List ℕ) where
  pub head→ : head_fits s ≡ true → HeadSound s
  unfolding head_fits
  head→ e =
      let a = and_r (leb 2848 (length s)) _ e in
      let b = and_r (eqb (num_at 8 s 0) mark) _ a in
      let c = and_r (leb 1 (slots s)) _ b in
      let d = and_r (leb (slots s) 64) _ c in
      let f = and_r (leb (data_at (slots s)) (length s)) _ d in
      record {
        marked = eqb-true (num_at 8 s 0) mark (and_l (eqb (num_at 8 s 0) mark) _ a);
        some = leb-true 1 (slots s) (and_l (leb 1 (slots s)) _ b);
        few = leb-true (slots s) 64 (and_l (leb (slots s) 64) _ c);
        room = leb-true (data_at (slots s)) (length s) (and_l (leb (data_at (slots s)) (length s)) _ d);
        left = leb-true (left_len s) 512 (and_l (leb (left_len s) 512) _ f);
        right = leb-true (right_len s) 512 (and_r (leb (left_len s) 512) _ f);
      }

  pub →head : HeadSound s → head_fits s ≡ true
  →head h = by_right s (omega arith) h.marked h.some h.few h.room h.left ∙ le-leb (right_len s) 512 h.right

  pub sound→ : sound s ≡ true → Sound s
  unfolding sound
  sound→ e =
      let head = head→ (and_l (head_fits s) _ e) in
      let tables = and_r (head_fits s) _ e in
      let entry : (i : ℕ) → i < slots s → entry_fits s i ≡ true
      = λ i l. all-holds (entry_fits s) (slots s) 0 (and_r (all (name_fits s directories) 8 0) _ tables) i (omega arith) (omega arith) in
      record {
        head = head;
        names = names-fit s directories (omega arith) (and_l (all (name_fits s directories) 8 0) _ tables);
        owners = λ i l. leb-true (owner s i) 8 (and_l (leb (owner s i) 8) (leb (len s i) 4096) (entry i l));
        lengths = λ i l. leb-true (len s i) 4096 (and_r (leb (owner s i) 8) (leb (len s i) 4096) (entry i l));
      }

  pub →sound : Sound s → sound s ≡ true
  →sound h =
      by_entries s (→head h.head) (fit-names s directories h.names)
      ∙ all_true (entry_fits s) (slots s) 0 (λ i l m. good-entry s i (h.owners i (omega arith)) (h.lengths i (omega arith)))
