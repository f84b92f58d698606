-- Reads that are refused as told: of a number that no open transaction has, of a tape that the transaction does not see, and outside of the bounds that it sees.
-- Assumes nothing.
use Rattle.promises.specs.Promise.{ends, known, ReadsElse}
use Rattle.promises.proofs.Runs.{stands-last}
use Rattle.promises.proofs.Reading.{with-handle}
use Rattle.promises.specs.Outside.{else-running}

pub reads-else : ReadsElse
reads-else r n long t i count buffer given =
    let a = ends r in
    else-running a.disk a.session (known r) (with-handle a (known r) n long given (stands-last r)) n long given t i count buffer
