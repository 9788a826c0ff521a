use Rattle.std.proofs.Common.{◌≡◌, ℕ, ◌<◌, ◌≤◌, ◌&&◌, ltb, leb, List, length, get_or, None, subst, sym, rules}
use Rattle.std.proofs.lemmas.Bool.{and_parts, leb-true}
use Rattle.std.specs.Option.{option_map}
use Rattle.book.specs.declared.fault.BookFault.TheVariants.{ZoneCount, ZoneField}
use Rattle.book.specs.Refusals.{unless, first_failing}
use Rattle.book.proofs.Firsts.{all_pass}
use Rattle.book.proofs.Shapes.{neither, unmapped}
use Rattle.book.specs.declared.zone.Zone.{Zone}
use Rattle.book.specs.Fields.{zone_in}
use Rattle.book.specs.Refusals.{zone_refusal}
use Rattle.judging.specs.Judgement.{zone_kept}
use Rattle.judging.proofs.zones.first_over.Goals as goal

-- a zone that was not refused ends on the deck
ends : (n : ℕ) (zs : List Zone) (i : ℕ) (d : Zone) → zone_refusal n zs ≡ None → i < length zs → (get_or zs i d).to ≤ n
ends n zs i d e below =
    let z = get_or zs i d in
    let fields = (neither (unless (leb (length zs) 32) ZoneCount) (option_map ZoneField (first_failing (zone_in n) 0 zs)) e).1 in
    let each = all_pass (zone_in n) 0 zs (unmapped ZoneField (first_failing (zone_in n) 0 zs) fields) i d below in
    leb-true _ _ (and_parts (ltb z.from z.to) (leb z.to n) (and_parts (ltb z.from z.to && leb z.to n) (leb z.limit 10000000) each).0).1

pub returns : goal.returns
returns g c tree checked =
    let ss = c.args.deck.now.stations.now in
    let zs = c.args.zones.now in
    c.first_failing.ensures (zone_kept ss) (λ x i b below is called.
    let le : x.now.to ≤ length ss = subst (λ (z : Zone). z.to ≤ length ss) (sym is) (ends (length ss) zs i x.now checked below) in
    search rules)
