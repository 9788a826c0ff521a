-- The edit that a record asks for, from its call and back.
use Rattle.std.proofs.Common.{◌≡◌, ℕ, List, Some, Ok, Err, Result, refl, ap, ◌∙◌}
use Rattle.std.specs.Result.{result_ok}
use Rattle.records.specs.declared.call.Call.{Call}
use Rattle.records.specs.declared.call.Call.TheVariants.{Load, Unload, Shift, Change}
use Rattle.records.specs.declared.fault.RecordFault.{RecordFault}
use Rattle.edits.specs.declared.edit.Edit.{Edit}
use Rattle.edits.specs.declared.fault.SheetFault.{SheetFault}
use Rattle.stages.specs.Meaning.{moves}
use Rattle.stages.specs.Plans.{with_next, of_record}
use Rattle.stages.specs.Staging.{stage_edit}

moves_as : (c : Call) (at : ℕ) → moves c ≡ result_ok (stage_edit c at)
moves_as (Load station kg) at = refl
moves_as (Unload station kg) at = refl
moves_as (Shift from to kg) at = refl
moves_as (Change station kg) at = refl

asked_as : (c : Call) (at : ℕ) (e : Edit) → moves c ≡ Some e → stage_edit c at ≡ Ok e
asked_as (Load station kg) at e is = cc
asked_as (Unload station kg) at e is = cc
asked_as (Shift from to kg) at e is = cc
asked_as (Change station kg) at e is = cc

-- a record that gives an edit and a next place
pub record FromCall (at : ℕ) (found : Result (Call × ℕ) RecordFault) (e : Edit) (next : ℕ) : Type 0 where
  pub call : Call
  pub read : found ≡ Ok (call, next)
  pub asks : moves call ≡ Some e

from_asked : (at : ℕ) (c : Call) (n : ℕ) (o : Result Edit SheetFault) (e : Edit) (next : ℕ) → stage_edit c at ≡ o → with_next o n ≡ Ok (e, next) → FromCall at (Ok (c, n)) e next
from_asked at c n (Err f) e next asked is = cc
from_asked at c n (Ok x) e next asked is =
    let same : (x, n) ≡ (e, next) = cc in
    record {
      call = c;
      read = ap (λ (p : Edit × ℕ). Ok (c, p.1)) same;
      asks = moves_as c at ∙ ap result_ok asked ∙ ap (λ (p : Edit × ℕ). Some p.0) same;
    }

pub from_call : (bytes : List ℕ) (at : ℕ) (found : Result (Call × ℕ) RecordFault) (e : Edit) (next : ℕ) → of_record bytes at found ≡ Ok (e, next) → FromCall at found e next
from_call bytes at (Err f) e next is = cc
from_call bytes at (Ok p) e next is = from_asked at p.0 p.1 (stage_edit p.0 at) e next refl is

pub to_call : (bytes : List ℕ) (at : ℕ) (c : Call) (e : Edit) (next : ℕ) → moves c ≡ Some e → of_record bytes at (Ok (c, next)) ≡ Ok (e, next)
to_call bytes at c e next is = ap (λ (o : Result Edit SheetFault). with_next o next) (asked_as c at e is)
