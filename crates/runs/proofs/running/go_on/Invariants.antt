use Rattle.std.proofs.Common.{map, take}
use Rattle.runs.specs.Law.{RunFrom}
use Rattle.sheet.specs.Memory.{numbers_of, state_of, Sound}
use Rattle.runs.proofs.running.go_on.Given as goal

-- so far the run is the tally's
abbrev pub invariant-loop-i : goal.invariant-loop-i
invariant-loop-i g l =
    let sheet = g.S.Steps.sheet in
    Sound g.T.Of.Kind (numbers_of (sheet l.initial.sheet)) l.initial.stations l.initial.nodes
    → RunFrom g.T.Of.Kind g.T.Test.meets (numbers_of (sheet l.initial.sheet)) (state_of (sheet l.initial.sheet)) l.initial.stations (take l.i (map g.S.Steps.one l.calls)) (take l.i l.answers) (numbers_of (sheet l.sheet)) (state_of (sheet l.sheet)) l.stations l.nodes
