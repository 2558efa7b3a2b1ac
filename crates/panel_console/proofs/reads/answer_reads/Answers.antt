use Rattle.std.proofs.Common.{◌≡◌, refl, true, length, take, arith, length-take-le, rules}
use Rattle.panel_calls.specs.Panel.{step_of}
use Rattle.panel_streams.proofs.Streaming.{streamed_none, streamed_next}
use Rattle.panel_console.proofs.reads.answer_reads.Goals as goal

pub loop-init : goal.loop-init
loop-init g c = record {
  fits = c.requires.fits;
  holds = c.requires.holds.0;
  room = c.requires.holds.1;
  asked = c.requires.holds.2;
  counted = refl;
  streamed = streamed_none step_of _ _ _ _;
}

pub returns-then-not-g-clause-streamed : goal.returns-then-not-g-clause-streamed
returns-then-not-g-clause-streamed g c = λ sound.
    let l = c.loop in
    let some = c.answer_some-g in
    let asked : length some.new.chunk ≡ 4096 = omega arith in
    let n = some.result.n in
    streamed_next step_of _ _ _ _ l.heard l.said _ _ _ _ l.invariant.streamed _ _ (take n some.new.chunk) n some.result.said _ _ _ _ (some.ensures.answered sound) (length-take-le n some.new.chunk (omega (arith, some.ensures.reads.few))) c.wrapping_add_u64-heard.ensures.value c.wrapping_add_u64-said.ensures.value some.ensures.read (some.ensures.written sound)

pub returns-then-not-g-clause-heard : goal.returns-then-not-g-clause-heard
returns-then-not-g-clause-heard g c = λ sound. (returns-then-not-g-clause-streamed g c sound).counts

pub loop-preserved : goal.loop-preserved
loop-preserved g c =
    let l = c.loop in
    let some = c.answer_some-g in
    let asked : length some.new.chunk ≡ 4096 = omega arith in
    let n = some.result.n in
    let more : some.result.more ≡ true = search rules in
    let sound = some.ensures.reads.goes_on more in
    record {
      fits = some.ensures.fits_2;
      holds = some.ensures.holds_2;
      room = omega arith;
      asked = asked;
      counted = omega arith;
      streamed = streamed_next step_of _ _ _ _ l.heard l.said _ _ _ _ l.invariant.streamed _ _ (take n some.new.chunk) n some.result.said _ _ _ _ (some.ensures.answered sound) (length-take-le n some.new.chunk (omega (arith, some.ensures.reads.few))) c.wrapping_add_u64-heard.ensures.value c.wrapping_add_u64-said.ensures.value some.ensures.read (some.ensures.written sound);
    }
