-- Demand 3, proved: what `Promise.antt` states, as one theorem. Assumes nothing.
use Rattle.promises.specs.Promise.{Promised}
use Rattle.promises.proofs.Reading.{reads}
use Rattle.promises.proofs.Waiting.{waits, append-waits}
use Rattle.promises.proofs.Rooms.{commits}
use Rattle.promises.proofs.CommitsServed.{commits-served}
use Rattle.promises.proofs.Others.{reads-one, pops}
use Rattle.promises.proofs.OneElse.{reads-one-else, pops-none, lengths}
use Rattle.promises.proofs.Outside.{reads-else}
use Rattle.promises.proofs.Pages.{page-stands, reads-again}
use Rattle.promises.proofs.Puts.{puts}
use Rattle.promises.proofs.Places.{two-places}
use Rattle.promises.proofs.Serves.{puts-find, reopens, closes}
use Rattle.promises.proofs.StillRead.{still_read}
use Rattle.promises.specs.Leaves.{refused-leaves}

pub promised : Promised
promised =
    record {
      reads = reads;
      waits = waits;
      append-waits = append-waits;
      commits = commits;
      commits-served = commits-served;
      reads-one = reads-one;
      pops = pops;
      pops-none = pops-none;
      reads-else = reads-else;
      reads-one-else = reads-one-else;
      lengths = lengths;
      page-stands = page-stands;
      reads-again = reads-again;
      puts = puts;
      two-places = two-places;
      puts-find = puts-find;
      still_read = still_read;
      reopens = reopens;
      closes = closes;
      refused-leaves = refused-leaves;
    }
