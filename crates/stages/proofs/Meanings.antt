-- Stages that all keep their limits are records of calls, each carried out on the deck that the one before it left.
use Rattle.std.proofs.Common.{◌≡◌, ℕ, zero, suc, ◌+◌, ◌-◌, ◌<◌, ◌≤◌, Bool, true, false, cond, eqb, List, [], ◌∷◌, ◌++◌, length, drop, Some, None, Ok, Err, Option, Result, sym, refl, ap, ◌∙◌, subst, ⊎_elim, arith, length-append, length-drop}
use lib.Seq.{drop-append_seam}
use Rattle.std.proofs.lemmas.List.{drop_all, drop-drop}
use Rattle.std.proofs.lemmas.Bool.{cases_lt, eqb-true}
use Rattle.records.specs.declared.call.Call.{Call}
use Rattle.records.specs.declared.fault.RecordFault.{RecordFault}
use Rattle.records.specs.Reading.{record_in, Stands, Exactly}
use Rattle.records.specs.Records.{encode}
use Rattle.records.proofs.Exacts.{exact}
use Rattle.book.specs.declared.basic.Basic.{Basic}
use Rattle.book.specs.declared.station.Station.{Station}
use Rattle.book.specs.declared.frame.Frame.{Frame}
use Rattle.book.specs.declared.vertex.Vertex.{Vertex}
use Rattle.book.specs.declared.zone.Zone.{Zone}
use Rattle.judging.specs.declared.occasion.Occasion.TheVariants.{Stage}
use Rattle.judging.specs.Judgement.{judgement}
use Rattle.judging.specs.Kept.{Keeps}
use Rattle.judging.proofs.Keeping.{code_0_is_kept}
use Rattle.edits.specs.declared.edit.Edit.{Edit}
use Rattle.edits.specs.declared.fault.SheetFault.{SheetFault}
use Rattle.edits.specs.Edits.{edited, edit_refusal}
use Rattle.stages.specs.declared.ending.Ending.{Ending}
use Rattle.stages.specs.declared.ending.Ending.TheVariants.{AllKept, Broken}
use Rattle.stages.specs.Meaning.{encodings, AreBytes, KeptStage, KeptStages, AllStagesKept, StagesMean}
use Rattle.stages.specs.Plans.{of_record}
use Rattle.stages.specs.Staging.{after_checks, ending_from, ending}
use Rattle.stages.proofs.Following.{after_plan, opened_record, shut, all_kept}
use Rattle.stages.proofs.Asking.{from_call, to_call}
use Rattle.stages.proofs.Encodings.{bytes_from, bytes_small, small_encodings, some_bytes}

module _ (b : Basic) (zs : List Zone) (fs : List Frame) (vs : List Vertex) (bytes : List ℕ) (all : AreBytes bytes) where
  exactly : (at : ℕ) → Exactly (drop at bytes) at (record_in (drop at bytes) at)
  exactly at = exact (drop at bytes) at _ (bytes_from bytes at all) refl

  -- the bytes after a record
  after_encoding : (at next : ℕ) (c : Call) (rest : List ℕ) → next ≡ at + length (encode c) → drop at bytes ≡ encode c ++ rest → drop next bytes ≡ rest
  after_encoding at next c rest is stands =
      ap (λ (k : ℕ). drop k bytes) is ∙ sym (drop-drop (length (encode c)) at bytes) ∙ ap (drop (length (encode c))) stands ∙ drop-append_seam (encode c) rest

  -- the checks that a stage passed
  pub record PassedOn (stage : ℕ) (ss : List Station) (p : Result (Edit × ℕ) SheetFault) (rest : ℕ → List Station → Ending) : Type 0 where
    pub edit : Edit
    pub next : ℕ
    pub is : p ≡ Ok (edit, next)
    pub accepted : edit_refusal ss edit ≡ None
    pub keeps : Keeps Stage b (edited edit ss) zs fs vs
    pub on : rest next (edited edit ss) ≡ AllKept

  checks_accept : (stage : ℕ) (o : Option SheetFault) (v : ℕ × ℕ) (x : Ending) → after_checks b zs fs vs bytes stage o v x ≡ AllKept → o ≡ None
  checks_accept stage (Some f) v x is = cc
  checks_accept stage None v x is = refl

  cond_kept : (t : Bool) (x : Ending) (stage code place : ℕ) → cond t x (Broken stage code place) ≡ AllKept → (t ≡ true) × (x ≡ AllKept)
  cond_kept true x stage code place is = (refl, is)
  cond_kept false x stage code place is = cc

  checks_keep : (stage : ℕ) (o : Option SheetFault) (v : ℕ × ℕ) (x : Ending) → after_checks b zs fs vs bytes stage o v x ≡ AllKept → (eqb v.0 0 ≡ true) × (x ≡ AllKept)
  checks_keep stage (Some f) v x is = cc
  checks_keep stage None v x is = cond_kept (eqb v.0 0) x stage v.0 v.1 is

  passed_on : (stage : ℕ) (ss : List Station) (p : Result (Edit × ℕ) SheetFault) (rest : ℕ → List Station → Ending) → after_plan b zs fs vs bytes stage ss p rest ≡ AllKept → PassedOn stage ss p rest
  passed_on stage ss (Err f) rest is = cc
  passed_on stage ss (Ok p) rest is =
      let e = p.0 in
      let said = checks_keep stage (edit_refusal ss e) (judgement Stage b (edited e ss) zs fs vs) (rest p.1 (edited e ss)) is in
      record {
        edit = e;
        next = p.1;
        is = refl;
        accepted = checks_accept stage (edit_refusal ss e) (judgement Stage b (edited e ss) zs fs vs) (rest p.1 (edited e ss)) is;
        keeps = code_0_is_kept.kept Stage b (edited e ss) zs fs vs (eqb-true _ 0 said.0);
        on = said.1;
      }

  -- the calls from a place on
  pub record KeptFrom (more at : ℕ) (ss : List Station) : Type 0 where
    pub calls : List Call
    pub few : length calls ≤ more
    pub written : drop at bytes ≡ encodings calls
    pub kept : KeptStages b zs fs vs ss calls

  none_from : (more at : ℕ) (ss : List Station) → length bytes ≤ at → KeptFrom more at ss
  none_from more at ss past = record { calls = []; few = omega arith; written = drop_all at bytes past; kept = tt }

  one_more : (more at stage : ℕ) (ss : List Station) (on : PassedOn stage ss (of_record bytes at (record_in (drop at bytes) at)) (ending_from b zs fs vs bytes more (suc stage))) → KeptFrom more on.next (edited on.edit ss) → KeptFrom (suc more) at ss
  one_more more at stage ss on later =
      let from = from_call bytes at (record_in (drop at bytes) at) on.edit on.next on.is in
      let c = from.call in
      let stands : Stands (drop at bytes) at c on.next = (exactly at).sound c on.next from.read in
      let rest = after_encoding at on.next c stands.2.0 stands.1 stands.2.1 in
      let count = later.few in
      record {
        calls = c ∷ later.calls;
        few = omega arith;
        written = stands.2.1 ∙ ap (λ (l : List ℕ). encode c ++ l) (sym rest ∙ later.written);
        kept = (edited on.edit ss, record { fits = stands.0; edit = on.edit; moved = from.asks; accepted = on.accepted; after = refl; keeps = on.keeps }, later.kept);
      }

  kept_from : (more stage at : ℕ) (ss : List Station) → ending_from b zs fs vs bytes more stage at ss ≡ AllKept → KeptFrom more at ss
  kept_from zero stage at ss is =
      ⊎_elim
      (λ (lt : at < length bytes). let out = shut b zs fs vs bytes stage at ss lt in cc)
      (λ (past : length bytes ≤ at). none_from zero at ss past)
      (cases_lt at (length bytes))
  kept_from (suc more) stage at ss is =
      ⊎_elim
      (λ (lt : at < length bytes).
      let on = passed_on stage ss (of_record bytes at (record_in (drop at bytes) at)) (ending_from b zs fs vs bytes more (suc stage)) (sym (opened_record b zs fs vs bytes stage at more ss lt) ∙ is) in
      one_more more at stage ss on (kept_from more (suc stage) on.next (edited on.edit ss) on.on))
      (λ (past : length bytes ≤ at). none_from (suc more) at ss past)
      (cases_lt at (length bytes))

  -- a kept stage goes on
  goes_on : (stage : ℕ) (ss ss' : List Station) (c : Call) (k : KeptStage b zs fs vs ss c ss') (next : ℕ) (rest : ℕ → List Station → Ending) → after_plan b zs fs vs bytes stage ss (Ok (k.edit, next)) rest ≡ rest next ss'
  goes_on stage ss ss' c k next rest =
      let e = k.edit in
      let v = judgement Stage b (edited e ss) zs fs vs in
      let zero_code : v ≡ (0, 0) = code_0_is_kept.only Stage b (edited e ss) zs fs vs (subst (λ (xs : List Station). Keeps Stage b xs zs fs vs) k.after k.keeps) in
      ap (λ (o : Option SheetFault). after_checks b zs fs vs bytes stage o v (rest next (edited e ss))) k.accepted
      ∙ ap (λ (w : ℕ × ℕ). after_checks b zs fs vs bytes stage None w (rest next (edited e ss))) zero_code
      ∙ ap (rest next) (sym k.after)

  only_from : (cs : List Call) (more stage at : ℕ) (ss : List Station) → length cs ≤ more → drop at bytes ≡ encodings cs → KeptStages b zs fs vs ss cs → ending_from b zs fs vs bytes more stage at ss ≡ AllKept
  only_from [] more stage at ss few is kept =
      let short : length bytes - at ≡ 0 = sym (length-drop at bytes) ∙ ap length is in
      all_kept b zs fs vs bytes stage at more ss (omega arith)
  only_from (c ∷ cs) zero stage at ss few is kept = absurd (omega arith)
  only_from (c ∷ cs) (suc more) stage at ss few is kept =
      let k = kept.1 in
      let next = at + length (encode c) in
      let size : length bytes - at ≡ length (encode c) + length (encodings cs) = sym (length-drop at bytes) ∙ ap length is ∙ length-append (encode c) (encodings cs) in
      let some = some_bytes c in
      let lt : at < length bytes = omega arith in
      let count : length cs ≤ more = omega arith in
      let rest = ending_from b zs fs vs bytes more (suc stage) in
      opened_record b zs fs vs bytes stage at more ss lt
      ∙ ap (λ (r : Result (Call × ℕ) RecordFault). after_plan b zs fs vs bytes stage ss (of_record bytes at r) rest) ((exactly at).complete c next (k.fits, refl, (encodings cs, is)))
      ∙ ap (λ (p : Result (Edit × ℕ) SheetFault). after_plan b zs fs vs bytes stage ss p rest) (to_call bytes at c k.edit next k.moved)
      ∙ goes_on stage ss kept.0 c k next rest
      ∙ only_from cs more (suc stage) next kept.0 count (after_encoding at next c (encodings cs) refl is) kept.2

  all_stages : (ss : List Station) → ending b zs fs vs bytes ss ≡ AllKept → AllStagesKept b zs fs vs bytes ss
  unfolding ending
  all_stages ss is =
      let k = kept_from 256 0 0 ss is in
      record { calls = k.calls; few = k.few; written = k.written; kept = k.kept }

  ends_kept : (ss : List Station) → AllStagesKept b zs fs vs bytes ss → ending b zs fs vs bytes ss ≡ AllKept
  unfolding ending
  ends_kept ss k = only_from k.calls 256 0 0 ss k.few k.written k.kept

pub stages_mean : StagesMean
stages_mean = record {
  kept = λ b zs fs vs bytes ss all is. all_stages b zs fs vs bytes all ss is;
  only = λ b zs fs vs bytes ss k. ends_kept b zs fs vs bytes (subst AreBytes (sym k.written) (bytes_small (encodings k.calls) (small_encodings k.calls))) ss k;
}
