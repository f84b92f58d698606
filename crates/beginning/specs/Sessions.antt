-- "`store` begins a session": with the list of the record that counts. "Store: 17", behind 1. Assumes nothing.
use Rattle.std.specs.Prelude.{Bool, cond, ◌&&◌, List, ℕ, Ok}
use Rattle.answers.specs.declared.Refusal.TheVariants.{Unusable, BadList}
use Rattle.metadata.specs.Decoding.{Listing, tapes, unreadable}
use Rattle.metadata.specs.Choice.{chosen, next_side, chosen_epoch, chosen_list}
use Rattle.metadata.specs.declared.choice.Side.TheVariants.{Left, Right}
use Rattle.layout.specs.Disk as D
use Rattle.layout.specs.Session as S
use Rattle.disk.specs.Steps.{side_bytes}
use Rattle.session.specs.Begin.{begin_session}
use Rattle.beginning.specs.Transactions.{After, after, refused}

unfoldable pub both_sound : List ℕ → List ℕ → Bool
both_sound d s = D.sound d && S.sound s

-- the record that counts
abbrev pub the_record : List ℕ → List ℕ
the_record d = chosen (side_bytes d Left) (side_bytes d Right)

abbrev pub start_with : List ℕ → List ℕ → Listing → After
start_with d s (tapes ts) =
    after (Ok (chosen_epoch (the_record d))) (begin_session s (chosen_epoch (the_record d)) (next_side (side_bytes d Left) (side_bytes d Right)) ts)
start_with d s unreadable = refused BadList s

unfoldable pub store_call : List ℕ → List ℕ → After
store_call d s = cond (both_sound d s) (start_with d s (chosen_list (the_record d))) (refused Unusable s)
