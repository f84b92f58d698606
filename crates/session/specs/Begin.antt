-- A session ended, and one begun: "`store` begins a session: no transactions, no handles, serials from 1". The rings' bytes are left. Assumes nothing.
use Rattle.std.specs.Prelude.{true, false, List, [], ◌∷◌, ℕ, ◌+◌, replicate}
use Rattle.octets.specs.Bytes.{put}
use Rattle.octets.specs.Number.{put_num}
use Rattle.metadata.specs.Tapes.{Tape}
use Rattle.metadata.specs.declared.choice.Side.{Side}
use Rattle.layout.specs.Names.{put_name}
use Rattle.layout.specs.Session.{mark, names_at}
use Rattle.session.specs.Rows.{put_head, put_view}

-- no session: the mark is taken away, and everything else is left
unfoldable pub ended : List ℕ → List ℕ
ended s = put_num 8 s 0 0

-- zeros up to the rings, the mark, and the session's own fields
unfoldable pub cleared : List ℕ → ℕ → Side → List ℕ
cleared s epoch side =
    put_head
    (put_num 8 (put s 0 (replicate 5960 0)) 0 mark)
    (record { epoch = epoch; cut = false; side = side; last_transaction = 0; last_handle = 0 })

-- a tape of the list in a tape place
unfoldable pub listed : List ℕ → ℕ → Tape → List ℕ
listed s p t = put_view (put_name s names_at p t.name) 17 p (record { listed = true; len = t.len; start = t.start })

-- the tapes of a list in the places from p on
unfoldable pub listed_from : List ℕ → ℕ → List Tape → List ℕ
listed_from s p [] = s
listed_from s p (t ∷ ts) = listed_from (listed s p t) (p + 1) ts

unfoldable pub begin_session : List ℕ → ℕ → Side → List Tape → List ℕ
begin_session s epoch side ts = listed_from (cleared s epoch side) 0 ts
