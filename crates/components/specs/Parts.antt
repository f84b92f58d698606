-- The parts of a run of bytes, as the code gives them, one after the other: each is the piece at the run's next byte. Assumes nothing.
use Rattle.std.specs.Prelude.{◌≡◌, ℕ, ◌+◌, ◌-◌, ◌^◌, ◌<◌, ◌≤◌, min, Option, Some, None}
use Rattle.std.specs.Iterator.{Count, at_most}
use Rattle.components.specs.Pieces.{file_of, place_in, left_in}
use Rattle.components.specs.declared.pieces.Part.{Part}
use Rattle.components.specs.declared.pieces.Parts.{Parts}

-- of `count` bytes from an offset on, with `done` of them given
abbrev pub parts_from : ℕ → ℕ → ℕ → ℕ → Parts
parts_from fs o count done = record { file_size = fs; offset = o; count = count; done = done }

-- the part at the next byte: up to the run's end or its file's
abbrev pub next_part : ℕ → ℕ → ℕ → ℕ → Part
next_part fs o count done =
    record {
      file = file_of fs (o + done);
      place = place_in fs (o + done);
      from = done;
      count = min (count - done) (left_in fs (o + done));
    }

pub record MayGive (s : Parts) : Type 0 where
  pub size : 0 < s.file_size
  pub within : s.done ≤ s.count
  pub fits : s.offset + s.count ≤ 2 ^ 64

-- the next part is given, or none is left
abbrev pub GivesPart : Parts → Option Part → Parts → Type 0
GivesPart s None t = (s.count ≤ s.done) × (t ≡ s)
GivesPart s (Some p) t =
    (s.done < s.count) × (p ≡ next_part s.file_size s.offset s.count s.done)
    × (t ≡ parts_from s.file_size s.offset s.count (s.done + min (s.count - s.done) (left_in s.file_size (s.offset + s.done))))

abbrev pub left_over : Parts → Count
left_over s = at_most (s.count - s.done)
