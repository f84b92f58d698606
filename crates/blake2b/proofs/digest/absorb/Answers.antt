use Rattle.std.proofs.Common.{◌≡◌, ◌+◌, ◌-◌, ◌*◌, ◌/◌, true, false, ◌++◌, length, sym, refl, ◌∙◌, arith, length-append}
use Rattle.blake2b.specs.Blake2b.{F, words_from, keyed, block_from, dd, absorbed, start as first}
use Rattle.blake2b.specs.Message.{all_of}
use Rattle.blake2b.proofs.Blocks.{absorbed-turn, finished-at, last_block}
use Rattle.blake2b.proofs.digest.absorb.Goals as goal

pub loop-i-init : goal.loop-i-init
unfolding absorbed
loop-i-init c = c.start-h.ensures

pub loop-i-preserved : goal.loop-i-preserved
loop-i-preserved c =
    let key = c.args.input.now.key.now in
    let s = all_of key c.args.input.now.head.now c.args.input.now.tail.now in
    let at = 128 * c.loop-i.i in
    let here : c.block_at-block.result ≡ block_from s at = c.block_at-block.ensures in
    let e : c.compress.new.h ≡ F c.loop-i.h (words_from 16 c.block_at-block.result 0) (at + 128) false = c.compress.ensures in
    e ∙ rw (here, c.loop-i.invariant) (sym (absorbed-turn (first (length key) c.args.nn) s c.loop-i.i at refl))

pub returns : goal.returns
returns c =
    let key = c.args.input.now.key.now in
    let head = c.args.input.now.head.now in
    let tail = c.args.input.now.tail.now in
    let s = all_of key head tail in
    let last = c.saturating_sub-last.result / 128 in
    let here : c.block_at-block-2.result ≡ block_from s (128 * last) = c.block_at-block-2.ensures in
    let e : c.compress-2.new.h ≡ F c.loop-i.h (words_from 16 c.block_at-block-2.result 0) c.len-total.result true = c.compress-2.ensures in
    let total : c.len-total.result ≡ length s = c.len-total.ensures.bytes in
    let end : c.loop-i.i ≡ last = omega arith in
    let count : last ≡ dd (length key) (length head + length tail) - 1
    = omega (arith, total, length-append (keyed key) (head ++ tail), length-append head tail, last_block key (length head + length tail) (omega arith)) in
    e ∙ rw (here, c.loop-i.invariant, end, total, ← count) (sym (finished-at (first (length key) c.args.nn) s last (128 * last) refl))
