use Rattle.std.proofs.Common.{◌≡◌, ℕ, ◌≤◌, sym, subst}
use Rattle.tree.specs.Widths.{width}
use Rattle.tree.proofs.Widening.{width_is, width_few}
use Rattle.tree.proofs.widths.width_of.Goals as goal

pub returns : goal.returns
returns c =
    let p = c.next_power_of_two.ensures in
    let e : c.next_power_of_two.result ≡ width c.args.stations =
    width_is c.args.stations c.next_power_of_two.result p.power.0 c.requires p.power.1 p.lower_bound p.upper_bound in
    record { value = e; upper_bound = subst (λ (w : ℕ). w ≤ 256) (sym e) (width_few c.args.stations c.requires) }
