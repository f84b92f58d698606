-- A transaction begun in a place of the session; whom an append waits for. Assumes nothing.
use Rattle.std.specs.Prelude.{Bool, ⊤, cond, ◌&&◌, List, ℕ, ◌+◌, eqb, ltb, Result, Ok, Err}
use Rattle.octets.specs.First.{count}
use Rattle.answers.specs.Answers.{Answer}
use Rattle.answers.specs.declared.Refusal.{Refusal}
use Rattle.answers.specs.declared.Refusal.TheVariants.{Unusable, TooLarge}
use Rattle.layout.specs.Disk as D
use Rattle.layout.specs.Session as S
use Rattle.session.specs.Rows.{head_of, put_head, copy_view, transaction_of, put_transaction}
use Rattle.session.specs.MeaningLaws.{is_open}
use Rattle.session.specs.declared.transactions.Kind.{Kind}

-- an answer, and the session then; the disk is not written
pub record After : Type 0 where
  pub answer : Answer
  pub session : List ℕ

abbrev pub after : Answer → List ℕ → After
after a s = record { answer = a; session = s }

-- a refused call changes no lent byte
abbrev pub refused : Refusal → List ℕ → After
refused why s = after (Err why) s

-- both areas keep their layout rules and a session was begun: else 1
unfoldable pub usable : List ℕ → List ℕ → Bool
usable d s = D.sound d && S.begun s

-- the first guard of a call: 1, or nothing
unfoldable pub check_usable : List ℕ → List ℕ → Result ⊤ Refusal
check_usable d s = cond (usable d s) (Ok tt) (Err Unusable)

unfoldable pub is_open_at : List ℕ → ℕ → Bool
is_open_at s t = is_open (transaction_of s t).kind

-- an open transaction of an older epoch
unfoldable pub is_older : List ℕ → ℕ → ℕ → Bool
is_older s epoch t = is_open_at s t && ltb (transaction_of s t).epoch epoch

-- rule 4: how many readers are of an older epoch
unfoldable pub waiting_for : List ℕ → ℕ → ℕ
waiting_for s epoch = count (is_older s epoch) 16 0

-- the session with a transaction in place t: the next number, the present epoch, the list as its view
unfoldable pub begun_at : List ℕ → ℕ → Kind → List ℕ
begun_at s t k =
    put_head
    (copy_view (put_transaction s t (record { kind = k; number = (head_of s).last_transaction + 1; epoch = (head_of s).epoch })) 17 t)
    (record {
      epoch = (head_of s).epoch;
      cut = (head_of s).cut;
      side = (head_of s).side;
      last_transaction = (head_of s).last_transaction + 1;
      last_handle = (head_of s).last_handle;
    })

unfoldable pub begin_at : List ℕ → ℕ → Kind → After
begin_at s t k =
    cond (eqb (head_of s).last_transaction 0xffff_ffff_ffff_ffff) (refused TooLarge s)
    (after (Ok ((head_of s).last_transaction + 1)) (begun_at s t k))
