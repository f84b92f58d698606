-- `replies::reads::entry_of`: without a session, or with no such handle, it is 1; else what the handle's row says. Assumes nothing.
use Rattle.std.proofs.Common.{sym, ◌∙◌}
use Rattle.layout.specs.SessionLaws.{begun→}
use Rattle.session.specs.RowLaws.{handle-entry}
use Rattle.staging.specs.Ways.{handle-found}
use Rattle.replies.specs.ReplyLaws.{entry_known}
use Rattle.replies.proofs.reads.entry_of.Goals as goal

pub find_handle-requires : goal.find_handle-requires
find_handle-requires c =
    (begun→ c.args.session.now (sym c.is_begun_session.ensures ∙ c.if-not-is_begun_session.false)).long

pub get_handle-requires : goal.get_handle-requires
get_handle-requires c = (
  (begun→ c.args.session.now (sym c.is_begun_session.ensures ∙ c.if-not-is_begun_session.false)).long,
  (handle-found c.args.session.now c.args.handle c.in-Some.tape (sym c.find_handle.ensures ∙ c.in-Some.is)).low,
)

pub returns-in-Some : goal.returns-in-Some
returns-in-Some c =
    handle-entry c.args.session.now c.in-Some.tape c.get_handle.result c.get_handle.ensures
    ∙ sym
    (entry_known c.args.session.now c.args.handle c.in-Some.tape (sym c.is_begun_session.ensures ∙ c.if-not-is_begun_session.false)
    (sym c.find_handle.ensures ∙ c.in-Some.is))
