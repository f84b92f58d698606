-- `replies::replying::reply`: what the line says decides, and each way out leaves the reply that the definition gives there; the arm of the rest is taken at
-- every call but a read. Assumes nothing.
use Rattle.std.proofs.Common.{◌≡◌, refl, sym, ap, ◌∙◌, Some, true, [], ℕ, arith}
use Rattle.answers.specs.Answers.{code_of, value_of}
use Rattle.answers.specs.Outcome.{outcome}
use Rattle.lines.specs.Calls.{call_of}
use Rattle.lines.specs.declared.calls.Call.{Call}
use Rattle.lines.specs.declared.calls.Call.TheVariants.{Format, Store, Append, Reader, Truncate, Open, Put, Shift, Cut, Read, Commit, Drop}
use Rattle.replies.specs.Replies.{made, kept}
use Rattle.replies.specs.ReplyLaws.{reply-length, asks, asks-short, reply-made}
use Rattle.replies.proofs.replying.reply.Goals as goal

asked : (call : Call) → ((t h i n : ℕ) → call ≡ Read t h i n → ⊥) → asks (Some call) ≡ true
asked Format k = refl
asked Store k = refl
asked Append k = refl
asked Reader k = refl
asked Truncate k = refl
asked (Open t e f c start) k = refl
asked (Put t h) k = refl
asked (Shift t h i) k = refl
asked (Cut t h n) k = refl
asked (Read t h i n) k = absurd (k t h i n refl)
asked (Commit t) k = refl
asked (Drop t) k = refl

pub make-answer-requires : goal.make-answer-requires
make-answer-requires c =
    let says : call_of c.args.line.now ≡ Some c.in-Some.call = sym c.parse_line.ensures ∙ c.in-Some.is in
    (asks-short c.args.line.now (rw says (asked c.in-Some.call c.in_default-call.not-Read)), c.requires.0)

pub returns-in_default-call : goal.returns-in_default-call
returns-in_default-call c =
    let says : call_of c.args.line.now ≡ Some c.in-Some.call = sym c.parse_line.ensures ∙ c.in-Some.is in
    let yes : asks (call_of c.args.line.now) ≡ true = rw says (asked c.in-Some.call c.in_default-call.not-Read) in
    let done : made c.args.disk.now c.args.session.now c.args.line.now (call_of c.args.line.now) ≡ outcome c.make-answer.result c.make-answer.new.disk c.make-answer.new.session
    = rw says c.make-answer.ensures.0 in
    rw (reply-made c.args.disk.now c.args.session.now c.args.number c.args.line.now c.args.space.now c.make-answer.result c.make-answer.new.disk c.make-answer.new.session yes done)
    (record {
      disk = refl;
      session = refl;
      space = c.make-answer.ensures.1 ∙ ap (kept c.args.line.now c.args.space.now) (sym says);
      text = c.reply_with.ensures;
      short = omega (arith, reply-length c.args.number (code_of c.make-answer.result) (value_of c.make-answer.result) [], c.reply_with.ensures.0);
    })
