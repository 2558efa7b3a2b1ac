use Rattle.std.proofs.Common.{◌≡◌, refl, true, [], length, take, arith, length-take-le, rules}
use Rattle.panel_streams.proofs.Streaming.{streamed_none, streamed_next}
use Rattle.panel_library.specs.Texts.{step_of}
use Rattle.panel_library.proofs.reads.answer_reads.Goals as goal

pub loop-init : goal.loop-init
loop-init g c = record {
  held = omega arith;
  room = c.requires.0;
  space = c.requires.1;
  asked = c.requires.2;
  counted = refl;
  streamed = streamed_none step_of tt [] _ _;
}

pub returns-then-not-g-clause-streamed : goal.returns-then-not-g-clause-streamed
returns-then-not-g-clause-streamed g c = λ sound.
    let l = c.loop in
    let some = c.answer_some-g in
    let asked : length some.new.chunk ≡ 4096 = omega arith in
    let n = some.result.n in
    streamed_next step_of tt [] tt _ l.heard l.said _ _ _ _ l.invariant.streamed tt _ (take n some.new.chunk) n some.result.said _ _ _ _ (some.ensures.answered sound) (length-take-le n some.new.chunk (omega (arith, some.ensures.reads.few))) c.wrapping_add_u64-heard.ensures.value c.wrapping_add_u64-said.ensures.value some.ensures.read (some.ensures.written sound)

pub returns-then-not-g-clause-heard : goal.returns-then-not-g-clause-heard
returns-then-not-g-clause-heard g c = λ sound. (returns-then-not-g-clause-streamed g c sound).counts

pub loop-preserved : goal.loop-preserved
loop-preserved g c =
    let l = c.loop in
    let some = c.answer_some-g in
    let asked : length some.new.chunk ≡ 4096 = omega arith in
    let n = some.result.n in
    let more : some.result.more ≡ true = search rules in
    let sound = some.ensures.reads.goes_on more in
    record {
      held = some.ensures.reads.held;
      room = omega arith;
      space = omega arith;
      asked = asked;
      counted = omega arith;
      streamed = streamed_next step_of tt [] tt _ l.heard l.said _ _ _ _ l.invariant.streamed tt _ (take n some.new.chunk) n some.result.said _ _ _ _ (some.ensures.answered sound) (length-take-le n some.new.chunk (omega (arith, some.ensures.reads.few))) c.wrapping_add_u64-heard.ensures.value c.wrapping_add_u64-said.ensures.value some.ensures.read (some.ensures.written sound);
    }
