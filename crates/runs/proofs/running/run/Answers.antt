use Rattle.std.proofs.Common.{◌≡◌, length, refl, ap, ◌∙◌, rules, Ok, Err}
use lib.ListN.{length-map}
use Rattle.edits.specs.declared.fault.SheetFault.{SheetFault}
use Rattle.sheet.specs.declared.states.Planning.{Planning}
use Rattle.runs.specs.declared.unrun.Unrun.TheVariants.{Refused}
use Rattle.tree.proofs.Overs.{Laws}
use Rattle.runs.proofs.Replays.{begun_no_room, begun_refused, begun_ran}
use Rattle.runs.proofs.running.run.Given as given
use Rattle.runs.proofs.running.run.Goals as goal

laws : (g : given.Over) → Laws g.T.Of.Kind
laws g = record { left = g.met.T.Of.Kind.left; right = g.met.T.Of.Kind.right; assoc = g.met.T.Of.Kind.assoc }

pub returns-then-calls-answers : goal.returns-then-calls-answers
returns-then-calls-answers g c =
    begun_no_room g.T.Of.Kind (laws g) g.T.Test.meets g.S.Steps.asked g.S.Steps.sheet c.args.basic c.args.stations.now c.args.nodes.now c.args.calls.now c.args.answers.now c.if-calls-answers.true

pub returns : goal.returns
returns g c =
    let long : length (g.S.Steps.asked c.args.calls.now) ≡ length c.args.calls.now = ap length (g.met.S.Steps.each c.args.calls.now) ∙ length-map c.args.calls.now g.S.Steps.one in
    let p = c.in_ok-opened.opened in
    let was : c.«open».result ≡ Ok p = search rules in
    let began = rw was at c.«open».ensures in
    let ran = rw c.planned.ensures at c.go_on.ensures in
    begun_ran g.T.Of.Kind (laws g) g.T.Test.meets g.S.Steps.asked g.S.Steps.sheet c.args.basic c.args.stations.now c.args.nodes.now c.args.calls.now c.args.answers.now c.if-calls-answers.false
    p c.«open».new.nodes c.go_on.result c.go_on.new.stations c.go_on.new.nodes c.go_on.new.answers long began (ran (began.sound p refl).1)

pub returns-in_err-opened : goal.returns-in_err-opened
returns-in_err-opened g c =
    let (f, was, out) : (f : SheetFault) × (c.«open».result ≡ Err f) × (c.from_residual.result ≡ Err (Refused f)) = search rules in
    rw out (begun_refused g.T.Of.Kind (laws g) g.T.Test.meets g.S.Steps.asked g.S.Steps.sheet c.args.basic c.args.stations.now c.args.nodes.now c.args.calls.now c.args.answers.now c.if-calls-answers.false
    f c.«open».new.nodes (rw was at c.«open».ensures))
