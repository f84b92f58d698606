-- All that a served open has found and leaves, of areas that are in order. Assumes nothing.
use Rattle.std.specs.Prelude.{◌≡◌, true, List, ℕ, ◌<◌, ◌^◌, Ok}
use Rattle.std.proofs.Common.{sym, subst, ◌∙◌}
use Rattle.std.proofs.Math.Path.{ap}
use Rattle.octets.specs.Number.{Bytes}
use Rattle.answers.specs.Answers.{code_of}
use Rattle.answers.specs.Outcome.{Outcome}
use Rattle.layout.specs.Disk.{directories}
use Rattle.layout.specs.Names.{find_name}
use Rattle.session.specs.Rows.{transaction_of}
use Rattle.session.specs.declared.transactions.Kind.TheVariants as K
use Rattle.rolling_tape.specs.Removal.{Areas, areas}
use Rattle.beginning.specs.Transactions.{usable}
use Rattle.opening.specs.declared.shape.Opening.{Opening}
use Rattle.opening.specs.ShapeLaws.{Shaped}
use Rattle.opening.specs.Directory.{readied}
use Rattle.opening.specs.Calls.{cached_bytes, next_handle, open_with, open_now, open_call, place_of, opened}
use Rattle.opening.specs.Laws.{Opens}
use Rattle.joins.specs.FilesAt.{files_at}
use Rattle.seen.specs.Orderly.{Orderly}
use Rattle.seen.specs.Kinds.{writes-kind, writes_as, began-fits}
use Rattle.opened.specs.OpensRows.{Went, open-went, Rows, went-low, went-shaped, went-rows, went-disk, went-files}
use Rattle.opened.specs.OpensFolders.{Readied, readied-all}

-- the tape of a name, opened by append t
pub record ServedOpen (d s : List ℕ) (t : ℕ) (wanted : List ℕ) (entry fs cache start : ℕ) (e u : List ℕ) : Type 0 where
  pub place : ℕ
  pub low : place < 8
  pub both : usable d s ≡ true
  pub kind : (transaction_of s 16).kind ≡ K.Append
  pub number : (transaction_of s 16).number ≡ t
  pub opens : Opens d s wanted (opened s wanted entry fs cache start) (place_of s wanted) place
  pub shaped : Shaped wanted (opened s wanted entry fs cache start)
  pub rows : Rows s u place wanted (opened s wanted entry fs cache start) (cached_bytes d wanted (opened s wanted entry fs cache start))
  pub readied : Readied (areas d s) (areas e u) wanted (opened s wanted entry fs cache start) (transaction_of s 16).epoch

-- the rows of the session are no business of the files
readied-rows : (a b : Areas) (u wanted : List ℕ) (o : Opening) (began : ℕ) → ((q : ℕ) → files_at (areas b.disk u) q ≡ files_at b q) → Readied a b wanted o began
    → Readied a (areas b.disk u) wanted o began
readied-rows a b u wanted o began same r =
    record {
      place = r.place;
      found = r.found;
      changed = record {
        own = same r.place ∙ r.changed.own;
        other = λ q apart. same q ∙ r.changed.other q apart;
        once = r.changed.once;
        fewer = r.changed.fewer;
        there = r.changed.there;
      };
      names = r.names;
      apart = r.apart;
      unique = r.unique;
    }

module _ (d s : List ℕ) (t : ℕ) (wanted : List ℕ) (entry fs cache start : ℕ) (orderly : Orderly d s) (new : Bytes wanted) (small : start < 2 ^ 64)
    (served : code_of (open_call d s t wanted entry fs cache start).answer ≡ 0) where
  abbrev o : Opening
  o = opened s wanted entry fs cache start

  abbrev result : Outcome
  result = open_call d s t wanted entry fs cache start

  went : Went d s t wanted entry fs cache start result
  went = open-went d s t wanted entry fs cache start served

  pub open-answer : result.answer ≡ Ok (next_handle s)
  unfolding open_now open_with
  open-answer = ap (λ (r : Outcome). r.answer) went.same

  pub open-served : ServedOpen d s t wanted entry fs cache start result.disk result.session
  open-served =
      let w = went in
      let began = (transaction_of s 16).epoch in
      let shaped = went-shaped d s t wanted entry fs cache start orderly.session-bytes new small w in
      let b = readied (areas d s) wanted o began (find_name d directories wanted) in
      record {
        place = w.place;
        low = went-low d s t wanted entry fs cache start orderly.session-bytes new small w;
        both = w.both;
        kind = writes-kind s t w.writer;
        number = writes_as s t w.writer;
        opens = w.opens;
        shaped = shaped;
        rows = went-rows d s t wanted entry fs cache start orderly.session-bytes new small w;
        readied =
            subst (λ (e : List ℕ). Readied (areas d s) (areas e result.session) wanted o began)
            (sym (went-disk d s t wanted entry fs cache start orderly.session-bytes new small w))
            (readied-rows (areas d s) b result.session wanted o began (went-files d s t wanted entry fs cache start orderly.session-bytes new small w)
            (readied-all (areas d s) wanted o began (record { sound = orderly.disk; begun = orderly.session; bytes = orderly.session-bytes }) orderly.once
            (began-fits s orderly.session-bytes) s shaped.name-short w.opens.few w.opens.there));
      }
