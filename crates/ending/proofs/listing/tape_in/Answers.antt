-- `tape_in` is the stored tape: its name, with zeros behind it up to 24, and the bounds that are published. Assumes nothing.
use Rattle.std.proofs.Common.{length, ◌≡◌, ap, Bool, List, ℕ, ◌≤◌, arith, replicate}
use Rattle.octets.specs.Bytes.{put}
use Rattle.metadata.specs.Struct.{stored}
use Rattle.metadata.specs.StructLaws.{stored-name}
use Rattle.metadata.specs.declared.list.TapeMetadata.{TapeMetadata}
use Rattle.layout.specs.Names.{name}
use Rattle.layout.specs.Session.{names_at}
use Rattle.session.specs.declared.views.View.{View}
use Rattle.ending.specs.Listing.{published, tape_in}
use Rattle.ending.specs.ListingLaws.{name-short}
use Rattle.ending.proofs.listing.tape_in.Goals as goal

filled : (s : List ℕ) (cut : Bool) (p : ℕ) {v : View} {own array : List ℕ} → length (name s names_at p) ≤ 24 → v ≡ published s cut p → own ≡ name s names_at p
    → array ≡ put (replicate 24 0) 0 own
    → ◌≡◌ {A = TapeMetadata} (record { letters = length own; name = array; len = v.len; start = v.start }) (stored (tape_in s cut p))
unfolding stored tape_in
filled s cut p short read named copied = rw (copied, named, stored-name (name s names_at p) short, read)

pub copy_in-requires : goal.copy_in-requires
copy_in-requires c =
    let short = name-short c.args.session.now c.args.tape c.requires.0 c.requires.1 in
    let same : length c.tape_name-part.result.now ≡ length (name c.args.session.now names_at c.args.tape) = ap length c.tape_name-part.ensures in
    omega arith

pub returns : goal.returns
returns c =
    filled c.args.session.now c.args.cut c.args.tape (name-short c.args.session.now c.args.tape c.requires.0 c.requires.1) c.published_view-len.ensures c.tape_name-part.ensures c.copy_in.ensures
