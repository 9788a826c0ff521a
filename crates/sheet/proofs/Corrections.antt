-- A change of a station's mass: what stands, and what is taken back.
use Rattle.std.proofs.Common.{◌≡◌, ℕ, ◌+◌, ◌-◌, ◌/◌, ◌<◌, true, false, cond, ltb, leb, List, length, get_or, set, ℤ, pos, nat_abs, is_some, is_err, Some, None, Ok, Err, Option, Result, sym, refl, ap, ◌∙◌, subst, ⊎_elim, true≢false}
use lib.Signed.{le_z}
use Rattle.std.proofs.lemmas.List.{get_or-set_same, set-set, set-get_or}
use Rattle.std.proofs.lemmas.Bool.{cases_Bool, cond-true, cond-false, ltb-true}
use Rattle.std.proofs.lemmas.Option.{same_Some}
use Rattle.std.specs.Option.{option_or}
use Rattle.std.specs.Result.{result_err}
use Rattle.book.specs.declared.station.Station.{Station}
use Rattle.book.specs.declared.limits.Limits.{Limits}
use Rattle.kinds.specs.declared.kind.Kind.{Ghosts}
use Rattle.kinds.specs.Folds.{AllLawful}
use Rattle.tree.specs.Trees.{Above, SegmentTree}
use Rattle.edits.specs.declared.fault.SheetFault.{SheetFault}
use Rattle.edits.specs.declared.fault.SheetFault.TheVariants.{NoStation, OverAllowance, Breaks}
use Rattle.edits.specs.declared.edit.Edit.{Edit}
use Rattle.edits.specs.Carrying.{AboveNamed, Put, Carried}
use Rattle.edits.specs.Edits.{nowhere, station_at, with_mass, put, loading, unloading, edited, absent, edit_refusal, memory_refusal}
use Rattle.edits.proofs.Carries.{some_none, first_none, test_held}
use Rattle.sheet.specs.declared.numbers.Numbers.{Numbers}
use Rattle.sheet.specs.Memory.{tally, Sound}
use Rattle.sheet.specs.Tally.{released, changing, refusal_by, verdict_by, broken_by, change_refusal}
use Rattle.sheet.specs.Weighing.{bad_limits, brought_refusal, Settled, Corrected}
use Rattle.sheet.proofs.Stepping.{length_edited}
use Rattle.sheet.proofs.Verdicts.{only_limits}

err_some : {X F : Type 0} (r : Result X F) → is_some (result_err r) ≡ true → is_err r ≡ true
err_some (Ok x) e = absurd (true≢false (sym e))
err_some (Err f) e = refl

-- a change puts one mass at its station
one_put : (ss : List Station) (k : ℕ) (kg : ℤ) → (x : ℕ) × (edited (changing k kg) ss ≡ put ss k x)
one_put ss k kg =
    ⊎_elim
    (λ (t : le_z (pos 0) kg ≡ true). ((station_at ss k).mass + nat_abs kg, ap (λ (e : Edit). edited e ss) (cond-true (le_z (pos 0) kg) (loading k (nat_abs kg)) (unloading k (nat_abs kg)) t)))
    (λ (f : le_z (pos 0) kg ≡ false). ((station_at ss k).mass - nat_abs kg, ap (λ (e : Edit). edited e ss) (cond-false (le_z (pos 0) kg) (loading k (nat_abs kg)) (unloading k (nat_abs kg)) f)))
    (cases_Bool (le_z (pos 0) kg))

-- which the old mass takes back
put_back : (ss : List Station) (k x : ℕ) → k < length ss → put (put ss k x) k (station_at ss k).mass ≡ ss
put_back ss k x lt =
    let there : station_at (put ss k x) k ≡ with_mass (station_at ss k) x = get_or-set_same ss k (with_mass (station_at ss k) x) nowhere lt in
    ap (λ (s : Station). set (put ss k x) k (with_mass s (station_at ss k).mass)) there ∙ set-set ss k (with_mass (station_at ss k) x) (station_at ss k) ∙ set-get_or ss k nowhere

-- no node but those above its station is above one that the change names
pub named_one : (m i k : ℕ) (kg : ℤ) → (Above i (m / 2 + k) → ⊥) → (AboveNamed m i (changing k kg).off → ⊥) × (AboveNamed m i (changing k kg).onto → ⊥)
named_one m i k kg out =
    ⊎_elim
    (λ (t : le_z (pos 0) kg ≡ true). rw t ((λ a. a), out))
    (λ (f : le_z (pos 0) kg ≡ false). rw f (out, (λ a. a)))
    (cases_Bool (le_z (pos 0) kg))

there_named : (ss : List Station) (k : ℕ) (kg : ℤ) → edit_refusal ss (changing k kg) ≡ None → k < length ss
there_named ss k kg none =
    ⊎_elim
    (λ (t : le_z (pos 0) kg ≡ true).
    let e : edit_refusal ss (loading k (nat_abs kg)) ≡ None = subst (λ (x : Edit). edit_refusal ss x ≡ None) (cond-true (le_z (pos 0) kg) (loading k (nat_abs kg)) (unloading k (nat_abs kg)) t) none in
    ltb-true k (length ss) (test_held (ltb k (length ss)) (NoStation k) (first_none (absent ss k) _ e)))
    (λ (f : le_z (pos 0) kg ≡ false).
    let e : edit_refusal ss (unloading k (nat_abs kg)) ≡ None = subst (λ (x : Edit). edit_refusal ss x ≡ None) (cond-false (le_z (pos 0) kg) (loading k (nat_abs kg)) (unloading k (nat_abs kg)) f) none in
    ltb-true k (length ss) (test_held (ltb k (length ss)) (NoStation k) (first_none (absent ss k) _ e)))
    (cases_Bool (le_z (pos 0) kg))

module _ {K R : Type 0} (G : Ghosts K R) (m : Numbers) (ss : List Station) (nodes : List K) (l : Limits) (k : ℕ) (kg : ℤ) where
  abbrev asked_edit : Edit
  asked_edit = changing k kg

  -- what is left of the checks once the limits that were brought are fine, and once the edit is
  pub past_limits : refusal_by l (tally m released ss) ≡ None → change_refusal l (tally m released ss) k kg ≡ option_or (edit_refusal ss asked_edit) (option_or (cond (leb (m.used + nat_abs kg) m.basic.allowance) None (Some OverAllowance)) (broken_by Breaks (verdict_by l (tally m released ss) (edited asked_edit ss))))
  past_limits none = ap (λ (o : Option SheetFault). option_or o (option_or (edit_refusal ss asked_edit) (option_or (cond (leb (m.used + nat_abs kg) m.basic.allowance) None (Some OverAllowance)) (broken_by Breaks (verdict_by l (tally m released ss) (edited asked_edit ss)))))) none

  pub past_edit : edit_refusal ss asked_edit ≡ None → option_or (edit_refusal ss asked_edit) (option_or (cond (leb (m.used + nat_abs kg) m.basic.allowance) None (Some OverAllowance)) (broken_by Breaks (verdict_by l (tally m released ss) (edited asked_edit ss)))) ≡ option_or (cond (leb (m.used + nat_abs kg) m.basic.allowance) None (Some OverAllowance)) (broken_by Breaks (verdict_by l (tally m released ss) (edited asked_edit ss)))
  past_edit none = ap (λ (o : Option SheetFault). option_or o (option_or (cond (leb (m.used + nat_abs kg) m.basic.allowance) None (Some OverAllowance)) (broken_by Breaks (verdict_by l (tally m released ss) (edited asked_edit ss))))) none

  -- refused by what was brought
  pub corrected_unbrought : (f : SheetFault) → brought_refusal m (length ss) (length nodes) l ≡ Some f → Corrected G m ss nodes l k kg (Err f) ss nodes
  corrected_unbrought f is = record {
    refuses = λ g which. ap Err (same_Some _ _ (sym (ap (λ (o : Option SheetFault). option_or o (edit_refusal ss asked_edit)) is) ∙ which));
    done = λ u ok. absurd (true≢false (ap is_err ok));
    untouched = λ _. refl;
    own = λ sound. sym (ap (λ (o : Option SheetFault). option_or o (option_or (edit_refusal ss asked_edit) (option_or (cond (leb (m.used + nat_abs kg) m.basic.allowance) None (Some OverAllowance)) (broken_by Breaks (verdict_by l (tally m released ss) (edited asked_edit ss)))))) (sym (only_limits G m ss nodes l released sound) ∙ is));
    tree = λ sound. sound.tree;
    beside = λ i d out. refl;
  }

  module _ (none : brought_refusal m (length ss) (length nodes) l ≡ None) where
    own_memory_too : memory_refusal m.n (length ss) (length nodes) ≡ None
    own_memory_too = first_none (memory_refusal m.n (length ss) (length nodes)) (bad_limits m.n l) none

    -- refused by the edit's own checks
    pub corrected_unedited : (f : SheetFault) (ss' : List Station) (nodes' : List K) → Carried G m.n ss nodes asked_edit (Err f) ss' nodes' → Corrected G m ss nodes l k kg (Err f) ss' nodes'
    corrected_unedited f ss' nodes' any =
        let which : edit_refusal ss asked_edit ≡ Some f = sym (any.refuses ∙ ap (λ (o : Option SheetFault). option_or o (edit_refusal ss asked_edit)) own_memory_too) in
        let (stations, nodes_too) = any.untouched refl in
        record {
          refuses = λ g is. ap Err (same_Some _ _ (sym which ∙ sym (ap (λ (o : Option SheetFault). option_or o (edit_refusal ss asked_edit)) none) ∙ is));
          done = λ u ok. absurd (true≢false (ap is_err ok));
          untouched = λ _. stations;
          own = λ sound.
              sym (past_limits (sym (only_limits G m ss nodes l released sound) ∙ none)
              ∙ ap (λ (o : Option SheetFault). option_or o (option_or (cond (leb (m.used + nat_abs kg) m.basic.allowance) None (Some OverAllowance)) (broken_by Breaks (verdict_by l (tally m released ss) (edited asked_edit ss))))) which);
          tree = λ sound. subst (λ (xs : List Station). SegmentTree G nodes' xs) (sym stations) (subst (λ (xs : List K). SegmentTree G xs ss) (sym nodes_too) sound.tree);
          beside = λ i d out. ap (λ (xs : List K). get_or xs i d) nodes_too;
        }

    module _ (ss1 : List Station) (nodes1 : List K) (any : Carried G m.n ss nodes asked_edit (Ok tt) ss1 nodes1) (r : Result ℕ SheetFault) (settled : Settled G m ss1 nodes1 l (nat_abs kg) r) where
      clear : edit_refusal ss asked_edit ≡ None
      clear = sym (any.refuses ∙ ap (λ (o : Option SheetFault). option_or o (edit_refusal ss asked_edit)) own_memory_too)

      now_is : ss1 ≡ edited asked_edit ss
      now_is = any.done refl

      not_refused : (f : SheetFault) → option_or (brought_refusal m (length ss) (length nodes) l) (edit_refusal ss asked_edit) ≡ Some f → ⊥
      not_refused f is = some_none (sym is ∙ ap (λ (o : Option SheetFault). option_or o (edit_refusal ss asked_edit)) none ∙ clear)

      own_now : Sound G m ss nodes → Sound G m ss1 nodes1
      own_now sound = record {
        size = sound.size ∙ sym (ap length now_is ∙ length_edited asked_edit ss);
        lawful = any.lawful sound.lawful;
        basic = sound.basic;
        spent = sound.spent;
        tree = any.tree sound.lawful sound.tree;
      }

      by_tally : Sound G m ss nodes → result_err r ≡ change_refusal l (tally m released ss) k kg
      by_tally sound =
          let limits_none : refusal_by l (tally m released ss) ≡ None = sym (only_limits G m ss nodes l released sound) ∙ none in
          let fine : bad_limits (length ss1) l ≡ None = ap (λ (n : ℕ). bad_limits n l) (ap length now_is ∙ length_edited asked_edit ss) ∙ limits_none in
          settled.own (own_now sound) fine
          ∙ ap (λ (xs : List Station). option_or (cond (leb (m.used + nat_abs kg) m.basic.allowance) None (Some OverAllowance)) (broken_by Breaks (verdict_by l (tally m released ss) xs))) now_is
          ∙ sym (past_limits limits_none ∙ past_edit clear)

      -- it stands
      pub corrected_stands : is_err r ≡ false → Corrected G m ss nodes l k kg r ss1 nodes1
      corrected_stands ok = record {
        refuses = λ f is. absurd (not_refused f is);
        done = λ u is. (settled.done u is, now_is);
        untouched = λ some. absurd (true≢false (sym (err_some r some) ∙ ok));
        own = by_tally;
        tree = λ sound. (own_now sound).tree;
        beside = λ i d out. let (off, onto) = named_one (length nodes) i k kg out in any.beside i d off onto;
      }

      -- it is taken back
      pub corrected_back : is_err r ≡ true → (ss2 : List Station) (nodes2 : List K) → length nodes1 ≡ length nodes → Put G ss1 nodes1 k (station_at ss k).mass ss2 nodes2 → Corrected G m ss nodes l k kg r ss2 nodes2
      corrected_back bad ss2 nodes2 long back =
          let (x, puts) = one_put ss k kg in
          let same : ss2 ≡ ss = back.stations ∙ ap (λ (xs : List Station). put xs k (station_at ss k).mass) (now_is ∙ puts) ∙ put_back ss k x (there_named ss k kg clear) in
          record {
            refuses = λ f is. absurd (not_refused f is);
            done = λ u is. absurd (true≢false (sym bad ∙ ap is_err is));
            untouched = λ _. same;
            own = by_tally;
            tree = λ sound. back.tree (subst AllLawful (sym same) sound.lawful) (own_now sound).tree;
            beside = λ i d out.
                let (off, onto) = named_one (length nodes) i k kg out in
                back.beside i d (λ a. out (subst (λ (n : ℕ). Above i (n / 2 + k)) long a)) ∙ any.beside i d off onto;
          }

-- the same under an equal name
module _ {K R : Type 0} {G : Ghosts K R} {ss : List Station} {nodes : List K} where
  pub carried_as : {n : ℕ} {e e' : Edit} {r : Result (Unit {0}) SheetFault} {ss' : List Station} {nodes' : List K} → e ≡ e' → Carried G n ss nodes e r ss' nodes' → Carried G n ss nodes e' r ss' nodes'
  carried_as {n} {e} {e'} {r} {ss'} {nodes'} is any = subst (λ (x : Edit). Carried G n ss nodes x r ss' nodes') is any

  pub settled_as : {m : Numbers} {l : Limits} {a b : ℕ} {r : Result ℕ SheetFault} → a ≡ b → Settled G m ss nodes l a r → Settled G m ss nodes l b r
  settled_as {m} {l} {a} {b} {r} is any = subst (λ (x : ℕ). Settled G m ss nodes l x r) is any

  pub put_as : {k a b : ℕ} {ss' : List Station} {nodes' : List K} → a ≡ b → Put G ss nodes k a ss' nodes' → Put G ss nodes k b ss' nodes'
  put_as {k} {a} {b} {ss'} {nodes'} is any = subst (λ (x : ℕ). Put G ss nodes k x ss' nodes') is any
