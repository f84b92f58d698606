-- What the steps over a tape's files keep of both areas: the disk's rule, length and slots; of the session only the rows of tracking change. Assumes nothing.
use Rattle.std.specs.Prelude.{◌≡◌, refl, length}
use Rattle.std.proofs.Common.{◌∙◌}
use Rattle.octets.specs.Only.{OnlyIn, only_none, only_then}
use Rattle.layout.specs.Disk.{slots, Sound}
use Rattle.rolling_tape.specs.Removal.{Areas}

pub record KeptSound (a b : Areas) : Type 0 where
  pub sound : Sound b.disk
  pub long : length b.disk ≡ length a.disk
  pub same : slots b.disk ≡ slots a.disk
  pub only : OnlyIn 4936 5960 a.session b.session

pub kept-sound-none : (a : Areas) → Sound a.disk → KeptSound a a
kept-sound-none a sound = record { sound = sound; long = refl; same = refl; only = only_none 4936 5960 a.session }

pub kept-sound-then : (a b c : Areas) → KeptSound a b → KeptSound b c → KeptSound a c
kept-sound-then a b c k l =
    record {
      sound = l.sound;
      long = l.long ∙ k.long;
      same = l.same ∙ k.same;
      only = only_then 4936 5960 a.session b.session c.session k.only l.only;
    }
