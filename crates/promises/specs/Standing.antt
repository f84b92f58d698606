-- What holds of the areas, and of what is told of every tape, after any calls: a session runs and all is in order, or the disk is formatted and no session was
-- begun. And in a running session, of the tape of a name: its last number, its place and its life. Assumes nothing.
use Rattle.std.specs.Prelude.{◌≡◌, ◌≢◌, Bool, true, false, List, ℕ, ◌<◌, length}
use Rattle.std.proofs.Common.{sym, subst, ◌∙◌}
use Rattle.octets.specs.Number.{Bytes}
use Rattle.layout.specs.Session.{begun}
use Rattle.disk.specs.Meaning.{disk_of, blank}
use Rattle.session.specs.Rows.{head_of}
use Rattle.rolling_tape.specs.Removal.{Areas}
use Rattle.lives.specs.Invariant.{Live, GoodIf}
use Rattle.seen.specs.Orderly.{Orderly}
use Rattle.seen.specs.Starts.{CutStarts}
use Rattle.seen.specs.Restarts.{OrderlyDisk}
use Rattle.seen.specs.Handles.{Placed, handle-place, live_at}
use Rattle.promises.specs.Told.{Known, unknown}
use Rattle.promises.specs.Holds.{Holds}

-- what is told of each name
abbrev pub Lore : Type 0
Lore = List ℕ → Known

pub record Running (a : Areas) (K : Lore) : Type 0 where
  pub orderly : Orderly a.disk a.session
  pub starts : CutStarts a.session
  pub holds : (n : List ℕ) → 0 < length n → Holds n a (K n)

pub record Formatted (a : Areas) (K : Lore) : Type 0 where
  pub slots : ℕ
  pub empty : disk_of a.disk ≡ blank slots
  pub disk : OrderlyDisk a.disk
  pub session : Bytes a.session
  pub unbegun : begun a.session ≡ false
  pub untold : (n : List ℕ) → 0 < length n → K n ≡ unknown

pub data Standing (a : Areas) (K : Lore) : Type 0 where
  running : Running a K → Standing a K
  formatted : Formatted a K → Standing a K

-- the same areas, and the same told of every name
pub standing-same : (a b : Areas) (K M : Lore) → b ≡ a → ((n : List ℕ) → M n ≡ K n) → Standing a K → Standing b M
standing-same a b K M e same (running r) =
    subst (λ (x : Areas). Standing x M) (sym e)
    (running (record { orderly = r.orderly; starts = r.starts; holds = λ n long. subst (Holds n a) (sym (same n)) (r.holds n long) }))
standing-same a b K M e same (formatted r) =
    subst (λ (x : Areas). Standing x M) (sym e)
    (formatted
    (record {
      slots = r.slots;
      empty = r.empty;
      disk = r.disk;
      session = r.session;
      unbegun = r.unbegun;
      untold = λ n long. subst (λ (k : Known). k ≡ unknown) (sym (same n)) (r.untold n long);
    }))

-- ---- of the tape of a name, in a running session

module _ (a : Areas) (K : Lore) (r : Running a K) (n : List ℕ) (long : 0 < length n) where
  -- the last number
  pub running-last : (head_of a.session).last_transaction ≡ (K n).last
  running-last = (r.holds n long).seen.last ∙ (r.holds n long).last

  -- a tape with a handle has its place, and is open
  module _ (given : (K n).handle ≢ 0) where
    pub its-place : Placed a.session n (K n).handle (K n).entry
    its-place = handle-place a.disk a.session r.orderly n (K n).handle (K n).entry (r.holds n long).handled given

    pub lives : (K n).tape.live ≡ true
    lives = let at = its-place in sym (r.holds n long).seen.live ∙ live_at a.session n at.place at.at (λ z. given (sym at.number ∙ z))

    pub its-life : Live (K n).tape (r.holds n long).phys
    its-life = subst (λ (b : Bool). GoodIf b (K n).tape (r.holds n long).phys) lives (r.holds n long).good
