use Rattle.std.proofs.Common.{◌≡◌, ℕ, Bool, true, false, not, Some, None, Ok, Err, Option, Result, refl, rules, sym, ap, ◌∙◌, subst, MatchOption}
use Rattle.std.proofs.lemmas.Bool.{not-true, not-false}
use Rattle.std.proofs.lemmas.Iterator.{IsFirst-from_position, YieldsList-from_slice}
use Rattle.std.specs.Option.{option_map}
use Rattle.book.specs.Refusals.{answer}
use Rattle.book.specs.declared.fault.BookFault.{BookFault}
use Rattle.book.proofs.Firsts.{is_first, names_first}
use Rattle.book.proofs.rule.check_each.Goals as goal

-- what `map_or` makes of the first that fails
made : (named : ℕ → BookFault) (o : Option ℕ) (r : Result (Unit {0}) BookFault) (Q : ℕ → Type 0) → MatchOption o (r ≡ Ok tt) Q → ((k : ℕ) → Q k → r ≡ Err (named k)) → r ≡ answer (option_map named o) tt
made named None r Q e each = e
made named (Some k) r Q e each = each k e

pub returns-clause-value : goal.returns-clause-value
returns-clause-value g c = λ test named keeps names.
    let told : (x : _) (b : Bool) → g.K.Fn.post c.args.keeps (x, tt) b → b ≡ test x.now = λ x b h. keeps x.now b (record { shown = x; shows = refl; says = record { met = h } }) in
    let r = IsFirst-from_position _ _ c.position-failing.result (λ x. test x ≡ false) (λ x. test x ≡ true) c.position-failing.ensures.ran
    (YieldsList-from_slice c.args.entries.now cc)
    (λ x q k. let h : (b : Bool) × g.K.Fn.post c.args.keeps (x, tt) b × (true ≡ not b) = search rules in sym (told x h.0 h.1) ∙ not-true h.0 (sym h.2))
    (λ x q k. let h : (b : Bool) × g.K.Fn.post c.args.keeps (x, tt) b × (false ≡ not b) = search rules in (search rules, sym (told x h.0 h.1) ∙ not-false h.0 (sym h.2))) in
    subst (λ (o : Option ℕ). c.map_or.result ≡ answer (option_map named o) tt) (is_first test c.args.entries.now c.position-failing.result r)
    (made named c.position-failing.result c.map_or.result _ c.map_or.ensures
    (λ k h. let p : (f : BookFault) × g.N.FnOnce.post c.args.fault (k, tt) f × (c.map_or.result ≡ Err f) = search rules in p.2 ∙ ap Err (names k p.0 p.1)))

pub returns-clause-first : goal.returns-clause-first
returns-clause-first g c = λ test. names_first test c.args.entries.now
