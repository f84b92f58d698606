-- Document 01, "The record": "Left is chosen if its epoch is larger, else right; the chosen record is handed on as the caller's own bytes (none where
-- it counts as empty). The next write goes to the other file." Assumes nothing.
use Rattle.std.specs.Prelude.{Bool, cond, Option, Some, None, List, [], ℕ, ◌+◌, ltb, length, take, drop}
use Rattle.octets.specs.Number.{num_at}
use Rattle.metadata.specs.declared.record.Record.{Record}
use Rattle.metadata.specs.declared.choice.Side.{Side}
use Rattle.metadata.specs.declared.choice.Side.TheVariants.{Left, Right}
use Rattle.metadata.specs.Decoding.{Listing, tapes, decode_list}
use Rattle.metadata.specs.Record.{read_record}

abbrev pub epoch_of : Option Record → ℕ
epoch_of (Some r) = r.epoch
epoch_of None = 0

-- the record's own bytes: 48 of its head, and its list's
abbrev pub part_of : List ℕ → Option Record → List ℕ
part_of s (Some r) = take (48 + r.list_len) s
part_of s None = []

-- the epoch in left is the larger
unfoldable pub left_counts : List ℕ → List ℕ → Bool
left_counts left right = ltb (epoch_of (read_record right)) (epoch_of (read_record left))

unfoldable pub chosen : List ℕ → List ℕ → List ℕ
chosen left right = cond (left_counts left right) (part_of left (read_record left)) (part_of right (read_record right))

unfoldable pub next_side : List ℕ → List ℕ → Side
next_side left right = cond (left_counts left right) Right Left

-- the epoch and the list of a record that was chosen: 0 and the empty list where it counts as empty
unfoldable pub chosen_epoch : List ℕ → ℕ
chosen_epoch r = cond (ltb (length r) 48) 0 (num_at 8 r 36)

unfoldable pub chosen_list : List ℕ → Listing
chosen_list r = cond (ltb (length r) 48) (tapes []) (decode_list (drop 48 r))
