-- Document 01, "The driver": the reply to a line, and what the areas then hold. "Its disk has 8 slots." Assumes nothing.
use Rattle.std.specs.Prelude.{◌≡◌, cond, Option, Some, None, Ok, Err, List, [], ℕ, ◌*◌, ◌≤◌, ltb, length, get_or, take}
use Rattle.octets.specs.Bytes.{put}
use Rattle.answers.specs.Answers.{code_of, value_of}
use Rattle.answers.specs.Outcome.{Outcome, outcome, Reading}
use Rattle.answers.specs.Answers.{Answer}
use Rattle.layout.specs.Session.{begun, entry_size_of}
use Rattle.session.specs.Rows.{find_handle}
use Rattle.beginning.specs.Calls.{append_call, reader_call, truncate_call}
use Rattle.beginning.specs.Disks.{format_call}
use Rattle.beginning.specs.Sessions.{store_call}
use Rattle.beginning.specs.Transactions.{After}
use Rattle.staging.specs.Shifting.{shift_call}
use Rattle.staging.specs.Cutting.{cut_call}
use Rattle.appending.specs.Calls.{put_call}
use Rattle.entries.specs.Reads.{read_call}
use Rattle.opening.specs.Calls.{open_call}
use Rattle.ending.specs.Committing.{commit_call}
use Rattle.ending.specs.Dropping.{drop_transaction_call}
use Rattle.lines.specs.Fields.{fields}
use Rattle.lines.specs.Hex.{hex_bytes}
use Rattle.lines.specs.Calls.{call_of}
use Rattle.lines.specs.Reply.{reply_of, unreadable_reply}
use Rattle.lines.specs.Written.{Written}
use Rattle.lines.specs.declared.calls.Call.{Call}
use Rattle.lines.specs.declared.calls.Call.TheVariants.{Format, Store, Append, Reader, Truncate, Open, Put, Shift, Cut, Read, Commit, Drop}

-- both areas, the space that bytes are kept in meanwhile, and the reply's text
pub record Replied : Type 0 where
  pub disk : List ℕ
  pub session : List ℕ
  pub space : List ℕ
  pub text : List ℕ

abbrev pub replied : List ℕ → List ℕ → List ℕ → List ℕ → Replied
replied d s space text = record { disk = d; session = s; space = space; text = text }

-- field k of a line, counted from the word on
abbrev pub field_of : List ℕ → ℕ → List ℕ
field_of line k = get_or (fields line) k []

-- ---- the calls without a read

-- a call that leaves the disk
abbrev pub on_disk : List ℕ → After → Outcome
on_disk d a = outcome a.answer d a.session

unfoldable pub made : List ℕ → List ℕ → List ℕ → Option Call → Outcome
made d s line (Some Format) = format_call d s 8
made d s line (Some Store) = on_disk d (store_call d s)
made d s line (Some Append) = on_disk d (append_call d s)
made d s line (Some Reader) = on_disk d (reader_call d s)
made d s line (Some Truncate) = on_disk d (truncate_call d s)
made d s line (Some (Open t e f c start)) = open_call d s t (field_of line 2) e f c start
made d s line (Some (Put t h)) = put_call d s t h (hex_bytes (field_of line 3))
made d s line (Some (Shift t h i)) = on_disk d (shift_call d s t h i)
made d s line (Some (Cut t h n)) = on_disk d (cut_call d s t h n)
made d s line (Some (Read t h i n)) = outcome (Ok 0) d s
made d s line (Some (Commit t)) = commit_call d s t
made d s line (Some (Drop t)) = on_disk d (drop_transaction_call d s t)
made d s line None = outcome (Ok 0) d s

-- the bytes of a put are kept in the space
unfoldable pub kept : List ℕ → List ℕ → Option Call → List ℕ
kept line space (Some Format) = space
kept line space (Some Store) = space
kept line space (Some Append) = space
kept line space (Some Reader) = space
kept line space (Some Truncate) = space
kept line space (Some (Open t e f c start)) = space
kept line space (Some (Put t h)) = put space 0 (hex_bytes (field_of line 3))
kept line space (Some (Shift t h i)) = space
kept line space (Some (Cut t h n)) = space
kept line space (Some (Read t h i n)) = space
kept line space (Some (Commit t)) = space
kept line space (Some (Drop t)) = space
kept line space None = space

-- "line number, code, value, bytes in hex or `-`"
abbrev pub told : ℕ → List ℕ → Outcome → Replied
told number space o = replied o.disk o.session space (reply_of number (code_of o.answer) (value_of o.answer) [])

abbrev pub makes : List ℕ → List ℕ → ℕ → List ℕ → List ℕ → Option Call → Replied
makes d s number line space call = told number (kept line space call) (made d s line call)

-- ---- the read: "a read above 4,096 bytes (entries, if there is no such handle), is unreadable"

abbrev pub entry_at : List ℕ → Option ℕ → ℕ
entry_at s (Some p) = entry_size_of s p
entry_at s None = 1

unfoldable pub entry_for : List ℕ → ℕ → ℕ
entry_for s h = cond (begun s) (entry_at s (find_handle s h)) 1

abbrev pub shown : Answer → ℕ → List ℕ → List ℕ
shown (Ok v) n buffer = take n buffer
shown (Err why) n buffer = []

abbrev pub read_text : List ℕ → List ℕ → ℕ → ℕ → Reading → Replied
read_text d s number n r =
    replied d s r.buffer (reply_of number (code_of r.answer) (value_of r.answer) (shown r.answer n r.buffer))

unfoldable pub reads : List ℕ → List ℕ → ℕ → List ℕ → ℕ → ℕ → ℕ → ℕ → Replied
reads d s number space t h i n =
    cond (ltb 4096 (n * entry_for s h)) (replied d s space (unreadable_reply number))
    (read_text d s number (n * entry_for s h) (read_call d s t h i n space))

-- ---- a line

abbrev pub reply_for : List ℕ → List ℕ → ℕ → List ℕ → List ℕ → Option Call → Replied
reply_for d s number line space (Some Format) = makes d s number line space (Some Format)
reply_for d s number line space (Some Store) = makes d s number line space (Some Store)
reply_for d s number line space (Some Append) = makes d s number line space (Some Append)
reply_for d s number line space (Some Reader) = makes d s number line space (Some Reader)
reply_for d s number line space (Some Truncate) = makes d s number line space (Some Truncate)
reply_for d s number line space (Some (Open t e f c start)) = makes d s number line space (Some (Open t e f c start))
reply_for d s number line space (Some (Put t h)) = makes d s number line space (Some (Put t h))
reply_for d s number line space (Some (Shift t h i)) = makes d s number line space (Some (Shift t h i))
reply_for d s number line space (Some (Cut t h n)) = makes d s number line space (Some (Cut t h n))
reply_for d s number line space (Some (Read t h i n)) = reads d s number space t h i n
reply_for d s number line space (Some (Commit t)) = makes d s number line space (Some (Commit t))
reply_for d s number line space (Some (Drop t)) = makes d s number line space (Some (Drop t))
reply_for d s number line space None = replied d s space (unreadable_reply number)

unfoldable pub reply_to : List ℕ → List ℕ → ℕ → List ℕ → List ℕ → Replied
reply_to d s number line space = reply_for d s number line space (call_of line)

-- the areas and the space are what a reply says, and its text stands at the front of the buffer, which it fits, with nothing else changed there
pub record Happened (r : Replied) (d s bytes before : List ℕ) (n : ℕ) (after : List ℕ) : Type 0 where
  pub disk : d ≡ r.disk
  pub session : s ≡ r.session
  pub space : bytes ≡ r.space
  pub text : Written r.text before 0 n after
  pub short : n ≤ length before
