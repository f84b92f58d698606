-- A put answers where its bytes stand: what was staged before it is whole entries, and the answer counts them. Assumes nothing.
use Rattle.std.proofs.Common.{ap, ◌∙◌, subst}
use Rattle.std.specs.Prelude.{ℕ, ◌*◌, length}
use Rattle.std.specs.Int.{◌∣◌}
use Rattle.std.proofs.Math.Nat.{div-mul_cancel}
use Rattle.lives.specs.Told.{Staging}
use Rattle.promises.specs.Told.{staged_length}
use Rattle.promises.specs.Promise.{ends, known, Puts}
use Rattle.promises.proofs.Runs.{stands-last}
use Rattle.promises.proofs.Always.{always}
use Rattle.promises.proofs.Reading.{with-handle}
use Rattle.promises.proofs.Others.{put-running}
use Rattle.promises.specs.Wholes.{WholeIn}
use Rattle.promises.proofs.Wholes.{wholes}

pub puts : Puts
puts r n long t bs c here start handle writer served =
    let a = ends r in
    let k = known r n in
    let q = with-handle a (known r) n long handle (stands-last r) in
    let whole : k.entry ∣ length c
    = subst (λ (w : Staging). k.entry ∣ staged_length w) writer (always WholeIn wholes r q n long handle).staged in
    ap (λ (v : ℕ). v * k.entry) (put-running a.disk a.session (known r) q n long handle t bs c here start writer served)
    ∙ div-mul_cancel k.entry whole
