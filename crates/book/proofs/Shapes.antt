-- What the tests of a polygon mean.
use Rattle.std.proofs.Common.{◌≡◌, ℕ, ◌<◌, Bool, true, false, ◌&&◌, eqb, leb, List, length, ℤ, pos, ◌≤ℤ◌, ◌<ℤ◌, Some, None, Ok, Decides, Option, Result, sym, refl, ap, ◌∙◌, subst, arith, MatchResult}
use lib.Signed.{lt_z, le_z}
use Rattle.std.proofs.lemmas.Int.{ints}
use Rattle.std.proofs.lemmas.Bool.{and_parts, and_from, leb-true, le-leb, eqb-true, eqb-false, cond-true, cond-false}
use Rattle.std.proofs.lemmas.Bool.Decides.{Decides-at, Decides-like}
use Rattle.std.specs.Option.{option_map, option_or}
use Rattle.book.specs.declared.fault.BookFault.{BookFault}
use Rattle.book.specs.declared.fault.BookFault.TheVariants.{VertexCount, VertexField, NotConvex}
use Rattle.book.specs.declared.vertex.Vertex.{Vertex}
use Rattle.book.specs.Envelopes.{IsEnvelope}
use Rattle.book.specs.Fields.{vertex_in}
use Rattle.book.specs.Polygons.{origin, corner, after, edge, every, left_of, convex, within, Convex, Within}
use Rattle.book.specs.Refusals.{answer, unless, first_failing, vertex_refusal}
use Rattle.book.proofs.Bounds.{in_limits, from_limits}
use Rattle.book.proofs.Everys.{every_decides}
use Rattle.book.proofs.Firsts.{all_pass, none_fails}

at_least : (z : ℤ) → Decides (le_z (pos 0) z) (pos 0 ≤ℤ z)
at_least z = ((λ h. grind (arith, ints)), (λ h. grind (arith, ints)))

pub within_means : (vs : List Vertex) (p : Vertex) {r : Bool} → r ≡ within vs p → Decides r (Within vs p)
within_means vs p {r} e =
    Decides-at r (within vs p) e
    (every_decides (λ i. le_z (pos 0) (edge vs i p)) (λ i. pos 0 ≤ℤ edge vs i p) (length vs) (λ i. at_least (edge vs i p)))

above : (z : ℤ) → lt_z (pos 0) z ≡ true → pos 0 <ℤ z
above z h = grind (arith, ints)

below : (z : ℤ) → pos 0 <ℤ z → lt_z (pos 0) z ≡ true
below z h = grind (arith, ints)

-- one vertex against one edge
abbrev Left : List Vertex → ℕ → ℕ → Type 0
Left vs i k = (k ≡ i → ⊥) → (k ≡ after (length vs) i → ⊥) → pos 0 <ℤ edge vs i (corner vs k)

left_means : (vs : List Vertex) (i k : ℕ) → Decides (left_of vs i k) (Left vs i k)
left_means vs i k = by (eqb k i) refl (eqb k (after (length vs) i)) refl
  where
    by : (a : Bool) → eqb k i ≡ a → (b : Bool) → eqb k (after (length vs) i) ≡ b → Decides (left_of vs i k) (Left vs i k)
    by true p b q = ((λ _ n m. absurd (n (eqb-true _ _ p))), (λ _. cond-true (eqb k i) _ _ p))
    by false p true q = ((λ _ n m. absurd (m (eqb-true _ _ q))), (λ _. cond-false (eqb k i) _ _ p ∙ cond-true (eqb k (after (length vs) i)) _ _ q))
    by false p false q =
        let e : left_of vs i k ≡ lt_z (pos 0) (edge vs i (corner vs k)) = cond-false (eqb k i) _ _ p ∙ cond-false (eqb k (after (length vs) i)) _ _ q in (
          (λ h n m. above (edge vs i (corner vs k)) (sym e ∙ h)),
          (λ h. e ∙ below (edge vs i (corner vs k)) (h (eqb-false _ _ p) (eqb-false _ _ q))),
        )

pub convex_means : (vs : List Vertex) → Decides (convex vs) (Convex vs)
convex_means vs =
    let n = length vs in
    Decides-like (convex vs) (λ h i k l m. h i l k m) (λ h i l k m. h i k l m)
    (every_decides (λ i. every n (left_of vs i)) (λ i. (k : ℕ) → k < n → Left vs i k) n
    (λ i. every_decides (left_of vs i) (Left vs i) n (left_means vs i)))

-- a list of refusals is empty where each of them is

pub neither : (a b : Option BookFault) → option_or a b ≡ None → (a ≡ None) × (b ≡ None)
neither None b e = (refl, e)
neither (Some f) b e = let z : ◌≡◌ {A = ℕ} 0 1 = cc in absurd (omega arith)

pub kept : (b : Bool) (f : BookFault) → unless b f ≡ None → b ≡ true
kept true f e = refl
kept false f e = let z : ◌≡◌ {A = ℕ} 0 1 = cc in absurd (omega arith)

pub unmapped : (f : ℕ → BookFault) (o : Option ℕ) → option_map f o ≡ None → o ≡ None
unmapped f None e = refl
unmapped f (Some x) e = let z : ◌≡◌ {A = ℕ} 0 1 = cc in absurd (omega arith)

abbrev counted : List Vertex → Bool
counted vs = leb 3 (length vs) && leb (length vs) 16

pub is_envelope : (vs : List Vertex) → vertex_refusal vs ≡ None → IsEnvelope vs
is_envelope vs e =
    let p = neither (unless (counted vs) VertexCount) (option_or (option_map VertexField (first_failing vertex_in 0 vs)) (unless (convex vs) NotConvex)) e in
    let q = neither (option_map VertexField (first_failing vertex_in 0 vs)) (unless (convex vs) NotConvex) p.1 in
    let n = and_parts (leb 3 (length vs)) (leb (length vs) 16) (kept (counted vs) VertexCount p.0) in
    let each = all_pass vertex_in 0 vs (unmapped VertexField (first_failing vertex_in 0 vs) q.0) in
    record {
      least = leb-true _ _ n.0;
      most = leb-true _ _ n.1;
      limits = λ i l. in_limits (corner vs i) (each i origin l);
      convex = (convex_means vs).0 (kept (convex vs) NotConvex q.1);
    }

pub no_refusal : (vs : List Vertex) → IsEnvelope vs → vertex_refusal vs ≡ None
no_refusal vs e =
    let a : counted vs ≡ true = and_from (leb 3 (length vs)) (leb (length vs) 16) (le-leb _ _ e.least) (le-leb _ _ e.most) in
    let b : first_failing vertex_in 0 vs ≡ None = none_fails vertex_in 0 vs origin (λ i l. from_limits (corner vs i) (e.limits i l)) in
    let c : convex vs ≡ true = (convex_means vs).1 e.convex in
    ap (λ (x : Bool). option_or (unless x VertexCount) (option_or (option_map VertexField (first_failing vertex_in 0 vs)) (unless (convex vs) NotConvex))) a
    ∙ ap (λ (x : Option ℕ). option_or (option_map VertexField x) (unless (convex vs) NotConvex)) b
    ∙ ap (λ (x : Bool). unless x NotConvex) c

-- an answer says whether the vertices are an envelope
abbrev Says : List Vertex → Result (Unit {0}) BookFault → Type 0
Says vs r = MatchResult r (λ _. IsEnvelope vs) (λ _. IsEnvelope vs → ⊥)

says : (vs : List Vertex) (o : Option BookFault) → vertex_refusal vs ≡ o → Says vs (answer o tt)
says vs None h = is_envelope vs h
says vs (Some f) h = λ s. let n = no_refusal vs s in let z : ◌≡◌ {A = ℕ} 0 1 = cc in omega arith

pub exactly_envelopes : (vs : List Vertex) {r : Result (Unit {0}) BookFault} → r ≡ answer (vertex_refusal vs) tt → Says vs r
exactly_envelopes vs {r} e = subst (Says vs) (sym e) (says vs (vertex_refusal vs) refl)

-- an answer that is no refusal
pub answered : {X : Type 0} (o : Option BookFault) (x y : X) → Ok y ≡ answer o x → o ≡ None
answered None x y e = refl
answered (Some f) x y e = let z : ◌≡◌ {A = ℕ} 0 1 = cc in absurd (omega arith)
