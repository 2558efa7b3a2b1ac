-- What the private steps ask of their callers: that a number fits where it is written. Definitions only. Assumes nothing.
use Rattle.std.specs.Prelude.{◌^◌, ◌<◌}
use Rattle.selection_spans.specs.declared.Span.{Span}

-- a span that a selection's 16 bits hold
pub record Narrow (s : Span) : Type 0 where
  pub start : s.start < 2 ^ 16
  pub count : s.count < 2 ^ 16
