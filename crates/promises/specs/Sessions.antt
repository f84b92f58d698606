-- A store, in a running session and after a format; and a format. Assumes nothing.
use Rattle.std.specs.Prelude.{◌≡◌, refl, List, ℕ, ◌<◌, length}
use Rattle.std.proofs.Common.{sym, ◌∙◌, inr, true≢false, arith}
use Rattle.std.proofs.Math.Path.{ap, subst}
use Rattle.octets.specs.Number.{Bytes}
use Rattle.answers.specs.Answers.{code_of, value_of}
use Rattle.session.specs.declared.transactions.Transaction.{Transaction}
use Rattle.rolling_tape.specs.Removal.{areas}
use Rattle.beginning.specs.Disks.{format_call}
use Rattle.beginning.specs.Sessions.{store_call}
use Rattle.staging.specs.Seeing.{is_truncate}
use Rattle.lives.specs.Life as L
use Rattle.lives.specs.Told as T
use Rattle.lives.specs.Invariant.{build}
use Rattle.lives.specs.Reads.{tied-blank}
use Rattle.seen.specs.Seen.{Seen}
use Rattle.seen.specs.Starts.{CutStarts}
use Rattle.seen.specs.Restarts.{orderly-disk, transaction-stored, store-orderly, store-handled, store-seen, store-answers}
use Rattle.seen.specs.Formats.{blank-seen, format-session-bytes, format-blank, format-orderly, format-unbegun}
use Rattle.promises.specs.Told.{Known, unknown, tell_as, calls, anew}
use Rattle.promises.specs.Holds.{Holds, moved}
use Rattle.promises.specs.Standing.{Lore, Running, Formatted}

blank-last : (L.blank).last ≡ 0
unfolding L.blank
blank-last = refl

module _ (d s : List ℕ) (served : code_of (store_call d s).answer ≡ 0) (K : Lore) where
  abbrev u : List ℕ
  u = (store_call d s).session

  abbrev v : ℕ
  v = value_of (store_call d s).answer

  -- no writer is open
  starts : Bytes d → CutStarts u
  starts bytes kind p low touched =
      absurd (true≢false (sym kind ∙ ap (λ (r : Transaction). is_truncate r.kind) (transaction-stored d s bytes served 16 (omega arith))))

  pub store-runs : Running (areas d s) K → Running (areas d u) (λ n. tell_as (K n) v (calls L.restart))
  store-runs r =
      let o = r.orderly in
      record {
        orderly = store-orderly d s (orderly-disk d s o) o.session-bytes served;
        starts = starts o.disk-bytes;
        holds = λ n long.
            let h = r.holds n long in
            let k = K n in
            let st = build k.tape h.phys in
            moved n (areas d s) (areas d u) k L.restart v h
            (record {
              w = st.epoch;
              answer = (store-answers d s o n long st h.seen served).1;
              seen = store-seen d s o n long st h.seen served;
              handle = 0;
              entry = 0;
              handled = store-handled d s o.disk-bytes served n 0;
              which = inr refl;
              says = refl;
              last = refl;
            });
      }

  -- a new session on a blank disk
  blank-holds : Formatted (areas d s) K → (n : List ℕ) → 0 < length n → Holds n (areas d u) (tell_as unknown v (calls L.restart))
  unfolding unknown T.nothing
  blank-holds r n long =
      let tied = tied-blank in
      record {
        phys = tied.phys;
        good = tied.good;
        seen = subst (Seen d u n) tied.same (blank-seen d r.slots r.empty s r.disk.bytes served n long);
        handled = store-handled d s r.disk.bytes served n 0;
        last = ap (λ (x : L.Store). x.last) (sym tied.same) ∙ blank-last;
      }

  pub store-begins : Formatted (areas d s) K → Running (areas d u) (λ n. tell_as (K n) v (calls L.restart))
  store-begins r =
      record {
        orderly = store-orderly d s r.disk r.session served;
        starts = starts r.disk.bytes;
        holds = λ n long. subst (λ (k : Known). Holds n (areas d u) (tell_as k v (calls L.restart))) (sym (r.untold n long)) (blank-holds r n long);
      }

-- whatever was there
pub format-runs : (d s : List ℕ) (k : ℕ) (K : Lore) (v : ℕ) → Bytes d → Bytes s → code_of (format_call d s k).answer ≡ 0
    → Formatted (areas (format_call d s k).disk (format_call d s k).session) (λ n. tell_as (K n) v anew)
format-runs d s k K v disk session served =
    record {
      slots = k;
      empty = format-blank d s k served;
      disk = format-orderly d s k served disk;
      session = format-session-bytes d s k session;
      unbegun = format-unbegun d s k served;
      untold = λ n long. refl;
    }
