-- A run of stages, so far.
use Rattle.std.proofs.Common.{◌≡◌, ℕ, suc, ◌+◌, ◌-◌, ◌<◌, ◌≤◌, List, length, None, Ok, Err, Result, sym, ap, ◌∙◌, subst, ⊎_elim, add-one, arith}
use Rattle.std.proofs.lemmas.Bool.{cases_lt}
use Rattle.book.specs.declared.basic.Basic.{Basic}
use Rattle.book.specs.declared.station.Station.{Station}
use Rattle.kinds.specs.declared.kind.Kind.{Ghosts}
use Rattle.book.specs.declared.frame.Frame.{Frame}
use Rattle.book.specs.declared.vertex.Vertex.{Vertex}
use Rattle.book.specs.declared.zone.Zone.{Zone}
use Rattle.book.specs.Refusals.{limits_refusal}
use Rattle.stages.specs.declared.ending.Ending.{Ending}
use Rattle.stages.specs.declared.ending.Ending.TheVariants.{AllKept}
use Rattle.stages.specs.Staging.{ending_from, ending}
use Rattle.stages.specs.Steps.{OnlyMasses, Ready, Stepped, Turned, Ran}
use Rattle.stages.proofs.Following.{all_kept}
use Rattle.stages.proofs.Masses.{only_self, only_then}

module _ {K R : Type 0} (G : Ghosts K R) (b : Basic) (zs : List Zone) (fs : List Frame) (vs : List Vertex) where
  ready_then : {ss ss' : List Station} {nodes nodes' : List K} → OnlyMasses G ss nodes ss' nodes' → Ready G b zs fs vs ss nodes → Ready G b zs fs vs ss' nodes'
  ready_then only ready = record {
    lawful = only.lawful ready.lawful;
    basic = ready.basic;
    limits = subst (λ (n : ℕ). limits_refusal n zs fs ≡ None) (sym only.alike.long) ready.limits;
    tree = only.tree ready.lawful ready.tree;
  }

  module _ (bytes : List ℕ) (ss : List Station) (nodes : List K) where
    -- the stages from here on end as all do
    pub record SoFar (stage at : ℕ) (ss' : List Station) (nodes' : List K) : Type 0 where
      pub few : stage ≤ 256
      pub only : OnlyMasses G ss nodes ss' nodes'
      pub leads : Ready G b zs fs vs ss nodes → (more : ℕ) → stage + more ≡ 256 → ending_from b zs fs vs bytes more stage at ss' ≡ ending b zs fs vs bytes ss

    at_first : (more : ℕ) → more ≡ 256 → ending_from b zs fs vs bytes more 0 0 ss ≡ ending b zs fs vs bytes ss
    unfolding ending
    at_first more is = ap (λ (m : ℕ). ending_from b zs fs vs bytes m 0 0 ss) is

    pub far_none : SoFar 0 0 ss nodes
    far_none = record { few = omega arith; only = only_self G ss nodes; leads = λ ready more count. at_first more (omega arith) }

    module _ (stage at : ℕ) (ss1 : List Station) (nodes1 : List K) (far : SoFar stage at ss1 nodes1) where
      -- no record is left
      pub far_done : length bytes ≤ at → Ran G b zs fs vs bytes ss nodes AllKept ss1 nodes1
      far_done past = record {
        only = far.only;
        value = λ ready.
            let few = far.few in
            sym (all_kept b zs fs vs bytes stage at (256 - stage) ss1 past) ∙ far.leads ready (256 - stage) (omega arith);
      }

    module _ (stage at : ℕ) (ss1 : List Station) (nodes1 : List K) (far : SoFar stage at ss1 nodes1) (r : Result ℕ Ending) (ss2 : List Station) (nodes2 : List K) where
      -- a record is left, and its stage is the last
      pub far_ends : Stepped G b zs fs vs bytes stage at ss1 nodes1 r ss2 nodes2 → at < length bytes → (e : Ending) → r ≡ Err e → Ran G b zs fs vs bytes ss nodes e ss2 nodes2
      far_ends step lt e is =
          let few = far.few in
          let count : stage + (256 - stage) ≡ 256 = omega arith in
          record {
            only = only_then G far.only step.only;
            value = λ ready. sym (step.ends e (256 - stage) is (ready_then far.only ready) lt count) ∙ far.leads ready (256 - stage) count;
          }

    module _ (stage at : ℕ) (ss1 : List Station) (nodes1 : List K) (far : SoFar stage at ss1 nodes1) (r : Result ℕ Ending) (ss2 : List Station) (nodes2 : List K) (turn : Turned G b zs fs vs bytes stage at ss1 nodes1 r ss2 nodes2) where
      stops_past : (e : Ending) → r ≡ Err e → length bytes ≤ at → Ran G b zs fs vs bytes ss nodes e ss2 nodes2
      stops_past e is past =
          let (kept, same, still) = turn.past past in
          let all : e ≡ AllKept = cc in
          rw (all, same, still) (far_done stage at ss1 nodes1 far past)

      stops_there : (e : Ending) → r ≡ Err e → at < length bytes → Ran G b zs fs vs bytes ss nodes e ss2 nodes2
      stops_there e is lt = far_ends stage at ss1 nodes1 far r ss2 nodes2 (turn.there lt) lt e is

      pub far_stops : (e : Ending) → r ≡ Err e → Ran G b zs fs vs bytes ss nodes e ss2 nodes2
      far_stops e is = ⊎_elim (stops_there e is) (stops_past e is) (cases_lt at (length bytes))

      -- going on, a record was there
      was_there : (next : ℕ) → r ≡ Ok next → at < length bytes
      was_there next is =
          ⊎_elim (λ (lt : at < length bytes). lt) (λ (past : length bytes ≤ at). let kept = (turn.past past).0 in absurd cc) (cases_lt at (length bytes))

      pub far_more : (next : ℕ) → r ≡ Ok next → SoFar (stage + 1) next ss2 nodes2
      far_more next is =
          let lt = was_there next is in
          let step = turn.there lt in
          let low = (step.further next is).0 in
          rw add-one
          record {
            few = omega arith;
            only = only_then G far.only step.only;
            leads = λ ready more count.
                let count' : stage + suc more ≡ 256 = omega arith in
                sym (step.goes next more is (ready_then far.only ready) lt count') ∙ far.leads ready (suc more) count';
          }
