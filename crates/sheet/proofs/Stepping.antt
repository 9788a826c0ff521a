-- Each call on the sheet's own memory is a step of the tally.
use Rattle.std.proofs.Common.{◌≡◌, ℕ, zero, suc, ◌+◌, ◌-◌, ◌<◌, ◌≤◌, Bool, true, false, ◌&&◌, eqb, ◌≢◌, List, length, Some, None, Ok, Err, Option, Result, sym, refl, ap, ◌∙◌, subst, ⊎_elim, arith, add-one}
use Rattle.std.proofs.lemmas.List.{length-set}
use Rattle.std.proofs.lemmas.Option.{same_Some}
use Rattle.std.proofs.lemmas.Bool.{eq-eqb, and_from, cond-true, cases_eq}
use Rattle.std.specs.Option.{option_or}
use Rattle.std.specs.Result.{result_err}
use Rattle.book.specs.declared.station.Station.{Station}
use Rattle.kinds.specs.declared.kind.Kind.{Ghosts}
use Rattle.tree.specs.Calls.{FirstMet}
use Rattle.tree.specs.Trees.{part}
use Rattle.tree.specs.Widths.{fits}
use Rattle.edits.specs.declared.edit.Edit.{Edit}
use Rattle.edits.specs.declared.fault.SheetFault.{SheetFault}
use Rattle.edits.specs.declared.fault.SheetFault.TheVariants as faults
use Rattle.edits.specs.Carrying.{Carried}
use Rattle.edits.specs.Edits.{lighter, heavier, edited, edit_refusal, memory_refusal}
use Rattle.edits.proofs.Carries.{some_none}
use Rattle.sheet.specs.declared.answer.Answer.{Answer}
use Rattle.sheet.specs.declared.answer.Answer.TheVariants.{Done, Refused, Summary, First, NotAdmitted}
use Rattle.sheet.specs.declared.call.Call.{Call}
use Rattle.sheet.specs.declared.call.Call.TheVariants.{Load, Unload, Shift, Range, Reopen}
use Rattle.sheet.specs.declared.call.Call.TheVariants as calls
use Rattle.sheet.specs.declared.numbers.Numbers.{Numbers}
use Rattle.sheet.specs.Asking.{Ranged, Found}
use Rattle.sheet.specs.Calls.{edit_of}
use Rattle.sheet.specs.Memory.{tally, Sound, said, Step, edit_answer, range_answer, first_answer}
use Rattle.sheet.specs.Tally.{State, planning, released, unless, range_refusal, first_of, first_met, answer, done, left}

-- the sheet's own memory is not refused
pub own_memory : {K R : Type 0} (G : Ghosts K R) (m : Numbers) (ss : List Station) (nodes : List K) → Sound G m ss nodes → memory_refusal m.n (length ss) (length nodes) ≡ None
own_memory G m ss nodes sound =
    let fit : fits m.n (length nodes) ≡ true = subst (λ (n : ℕ). fits n (length nodes) ≡ true) (sym sound.size) sound.tree.fitting in
    cond-true (eqb (length ss) m.n && fits m.n (length nodes)) None (Some faults.OtherLength) (and_from _ _ (eq-eqb (length ss) m.n (sym sound.size)) fit)

-- an edit leaves as many stations
pub length_edited : (e : Edit) (ss : List Station) → length (edited e ss) ≡ length ss
length_edited e ss = heavier_long e.onto (lighter e.off e.kg ss) ∙ lighter_long e.off
  where
    lighter_long : (off : Option ℕ) → length (lighter off e.kg ss) ≡ length ss
    lighter_long None = refl
    lighter_long (Some k) = length-set ss k _

    heavier_long : (onto : Option ℕ) (xs : List Station) → length (heavier onto e.kg xs) ≡ length xs
    heavier_long None xs = refl
    heavier_long (Some k) xs = length-set xs k _

-- the least number from `from` on and below `end` of which a test holds, or none
abbrev Least : (ℕ → Bool) → ℕ → ℕ → Option ℕ → Type 0
Least holds from end None = (i : ℕ) → from ≤ i → i < end → holds i ≡ false
Least holds from end (Some k) = (from ≤ k) × (k < end) × (holds k ≡ true) × ((i : ℕ) → from ≤ i → i < k → holds i ≡ false)

module _ {K R T : Type 0} (G : Ghosts K R) (meets : T → R → Bool) where
  -- what a planning sheet answers to a call for an edit, and what is left where it is done
  asks : (m : Numbers) (ss : List Station) (e : Edit) (c : Call T) → edit_of c ≡ Some e →
      (answer G meets (tally m planning ss) c ≡ unless (edit_refusal ss e) Done) × (done G meets (tally m planning ss) c ≡ tally m planning (edited e ss))
  asks m ss e (Load station kg) is = let h = same_Some _ _ is in (ap (λ (x : Edit). unless (edit_refusal ss x) Done) h, ap (λ (x : Edit). tally m planning (edited x ss)) h)
  asks m ss e (Unload station kg) is = let h = same_Some _ _ is in (ap (λ (x : Edit). unless (edit_refusal ss x) Done) h, ap (λ (x : Edit). tally m planning (edited x ss)) h)
  asks m ss e (Shift from to kg) is = let h = same_Some _ _ is in (ap (λ (x : Edit). unless (edit_refusal ss x) Done) h, ap (λ (x : Edit). tally m planning (edited x ss)) h)
  asks m ss e (Range from to) is = absurd (some_none (sym is))
  asks m ss e (calls.First test) is = absurd (some_none (sym is))
  asks m ss e (calls.Judge l) is = absurd (some_none (sym is))
  asks m ss e (calls.Stages l bytes) is = absurd (some_none (sym is))
  asks m ss e (calls.Release l) is = absurd (some_none (sym is))
  asks m ss e (calls.Change l asked) is = absurd (some_none (sym is))
  asks m ss e Reopen is = absurd (some_none (sym is))

  -- load, unload and shift
  pub step_edit : (m : Numbers) (ss : List Station) (nodes : List K) (e : Edit) (r : Result (Unit {0}) SheetFault) (ss' : List Station) (nodes' : List K) → Carried G m.n ss nodes e r ss' nodes' → (c : Call T) → edit_of c ≡ Some e → Sound G m ss nodes →
      Step G meets m planning ss nodes c (edit_answer r) m planning ss' nodes'
  step_edit m ss nodes e (Ok u) ss' nodes' any c is sound =
      let (says, leaves) = asks m ss e c is in
      let own = own_memory G m ss nodes sound in
      let none : None ≡ edit_refusal ss e = any.refuses ∙ ap (λ (o : Option SheetFault). option_or o (edit_refusal ss e)) own in
      let done_now : answer G meets (tally m planning ss) c ≡ Done = says ∙ sym (ap (λ (o : Option SheetFault). unless o Done) none) in
      let now : ss' ≡ edited e ss = any.done refl in
      record {
        answered = sym done_now;
        stands = ap (tally m planning) now ∙ sym leaves ∙ sym (ap (λ (a : Answer R). left G meets a (tally m planning ss) c) done_now);
        sound = record {
          size = sound.size ∙ sym (ap length now ∙ length_edited e ss);
          lawful = any.lawful sound.lawful;
          basic = sound.basic;
          spent = sound.spent;
          tree = any.tree sound.lawful sound.tree;
        };
      }
  step_edit m ss nodes e (Err f) ss' nodes' any c is sound =
      let (says, leaves) = asks m ss e c is in
      let own = own_memory G m ss nodes sound in
      let some : Some f ≡ edit_refusal ss e = any.refuses ∙ ap (λ (o : Option SheetFault). option_or o (edit_refusal ss e)) own in
      let refused_now : answer G meets (tally m planning ss) c ≡ Refused f = says ∙ sym (ap (λ (o : Option SheetFault). unless o Done) some) in
      let (stations, nodes_too) = any.untouched refl in
      record {
        answered = sym refused_now;
        stands = ap (tally m planning) stations ∙ sym (ap (λ (a : Answer R). left G meets a (tally m planning ss) c) refused_now);
        sound = subst (λ (x : List Station). Sound G m x nodes') (sym stations) (subst (λ (x : List K). Sound G m ss x) (sym nodes_too) sound);
      }

  -- a call that leaves everything
  pub asked : (m : Numbers) (state : State) (ss : List Station) (nodes : List K) (c : Call T) (a : Answer K) (b : Answer R) → said G.reading a ≡ b → answer G meets (tally m state ss) c ≡ b → left G meets b (tally m state ss) c ≡ tally m state ss → Sound G m ss nodes → Step G meets m state ss nodes c a m state ss nodes
  asked m state ss nodes c a b is says stays sound = record {
    answered = is ∙ sym says;
    stands = sym (ap (λ (x : Answer R). left G meets x (tally m state ss) c) says ∙ stays);
    sound = sound;
  }

  range_asks : (m : Numbers) (state : State) (ss : List Station) (from to : ℕ) → answer G meets (tally m state ss) (Range from to) ≡ unless (range_refusal (length ss) from to) (Summary (part G from (to - from) ss))
  range_asks m planning ss from to = refl
  range_asks m released ss from to = refl

  pub step_range : (m : Numbers) (state : State) (ss : List Station) (nodes : List K) (from to : ℕ) (r : Result K SheetFault) → Ranged G m.n ss nodes from to r → Sound G m ss nodes → Step G meets m state ss nodes (Range from to) (range_answer r) m state ss nodes
  step_range m state ss nodes from to r any sound =
      let own = own_memory G m ss nodes sound in
      let is : result_err r ≡ range_refusal (length ss) from to =
      any.refuses ∙ ap (λ (o : Option SheetFault). option_or o (range_refusal m.n from to)) own ∙ ap (λ (n : ℕ). range_refusal n from to) sound.size in
      by_result r is (λ v ok. any.reads v ok sound.tree)
    where
      by_result : (r : Result K SheetFault) → result_err r ≡ range_refusal (length ss) from to → ((v : K) → r ≡ Ok v → G.reading v ≡ part G from (to - from) ss) → Step G meets m state ss nodes (Range from to) (range_answer r) m state ss nodes
      by_result (Ok v) is reads = asked m state ss nodes (Range from to) (Summary v) (Summary (G.reading v)) refl (range_asks m state ss from to ∙ sym (ap (λ (o : Option SheetFault). unless o (Summary (part G from (to - from) ss))) is) ∙ ap Summary (sym (reads v refl))) refl sound
      by_result (Err f) is reads = asked m state ss nodes (Range from to) (Refused f) (Refused f) refl (range_asks m state ss from to ∙ sym (ap (λ (o : Option SheetFault). unless o (Summary (part G from (to - from) ss))) is)) refl sound

  first_asks : (m : Numbers) (state : State) (ss : List Station) (test : T) → answer G meets (tally m state ss) (calls.First test) ≡ First (first_met G meets test ss)
  first_asks m planning ss test = refl
  first_asks m released ss test = refl

  -- the least station at which a test is met is the first of the numbers of which it holds
  least_is_first : (holds : ℕ → Bool) (more k : ℕ) (o : Option ℕ) → Least holds k (k + more) o → o ≡ first_of holds more k
  least_is_first holds zero k None h = refl
  least_is_first holds zero k (Some i) (from, to, at, before) = absurd (omega arith)
  least_is_first holds (suc more) k None h =
      rw (h k (omega arith) (omega arith)) (least_is_first holds more (suc k) None (λ i from to. h i (omega arith) (omega arith)))
  least_is_first holds (suc more) k (Some i) (from, to, at, before) =
      ⊎_elim
      (λ (e : i ≡ k). let t : holds k ≡ true = subst (λ (x : ℕ). holds x ≡ true) e at in rw (t, e) refl)
      (λ (ne : i ≢ k). rw (before k (omega arith) (omega arith)) (least_is_first holds more (suc k) (Some i) (omega arith, omega arith, at, λ j low high. before j (omega arith) high)))
      (cases_eq i k)

  pub step_first : (m : Numbers) (state : State) (ss : List Station) (nodes : List K) (test : T) (r : Result (Option ℕ) SheetFault) → Found G (meets test) m.n ss nodes r → Sound G m ss nodes → Step G meets m state ss nodes (calls.First test) (first_answer r) m state ss nodes
  step_first m state ss nodes test r any sound = by_result r (any.refuses ∙ own_memory G m ss nodes sound) (λ o ok. any.first o ok sound.lawful sound.tree)
    where
      least : (o : Option ℕ) → FirstMet G (meets test) ss o → o ≡ first_met G meets test ss
      least None h = least_is_first (λ k. meets test (part G 0 (suc k) ss)) (length ss) 0 None (λ i from to. subst (λ (x : ℕ). meets test (part G 0 x ss) ≡ false) (add-one i) (h i (omega arith)))
      least (Some i) (within, met, before) =
          least_is_first (λ k. meets test (part G 0 (suc k) ss)) (length ss) 0 (Some i)
          (omega arith, omega arith, subst (λ (x : ℕ). meets test (part G 0 x ss) ≡ true) (add-one i) met, λ j low high. subst (λ (x : ℕ). meets test (part G 0 x ss) ≡ false) (add-one j) (before j high))

      by_result : (r : Result (Option ℕ) SheetFault) → result_err r ≡ None → ((o : Option ℕ) → r ≡ Ok o → FirstMet G (meets test) ss o) → Step G meets m state ss nodes (calls.First test) (first_answer r) m state ss nodes
      by_result (Ok o) is met = asked m state ss nodes (calls.First test) (First o) (First o) refl (first_asks m state ss test ∙ ap First (sym (least o (met o refl)))) refl sound
      by_result (Err f) is met = absurd (some_none is)

  -- a call that the state does not admit
  pub step_barred : (m : Numbers) (state : State) (ss : List Station) (nodes : List K) (c : Call T) → answer G meets (tally m state ss) c ≡ NotAdmitted → Sound G m ss nodes → Step G meets m state ss nodes c NotAdmitted m state ss nodes
  step_barred m state ss nodes c says sound = asked m state ss nodes c NotAdmitted NotAdmitted refl says refl sound

  -- a step under equal names
  pub step_as : {m m' : Numbers} {state state' : State} {ss ss1 ss2 : List Station} {nodes n1 n2 : List K} {c c' : Call T} {a a' : Answer K} → c ≡ c' → a ≡ a' → ss1 ≡ ss2 → n1 ≡ n2 →
      Step G meets m state ss nodes c' a' m' state' ss2 n2 → Step G meets m state ss nodes c a m' state' ss1 n1
  step_as {m} {m'} {state} {state'} {ss} {ss1} {ss2} {nodes} {n1} {n2} {c} {c'} {a} {a'} ec ea es en s = rw (ec, ea, es, en) s
