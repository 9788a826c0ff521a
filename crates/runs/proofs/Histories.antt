-- A run of calls, one call longer.
use Rattle.std.proofs.Common.{◌≡◌, ℕ, ◌+◌, ◌<◌, Bool, List, [], ◌∷◌, ◌++◌, length, get_or, take, set, sym, refl, ap, ◌∙◌}
use Rattle.std.proofs.lemmas.List.{take_more, take_more_set, map_push}
use Rattle.book.specs.declared.station.Station.{Station}
use Rattle.kinds.specs.declared.kind.Kind.{Ghosts}
use Rattle.sheet.specs.declared.answer.Answer.{Answer}
use Rattle.sheet.specs.declared.call.Call.{Call}
use Rattle.sheet.specs.declared.numbers.Numbers.{Numbers}
use Rattle.runs.specs.Law.{RunFrom}
use Rattle.sheet.specs.Memory.{tally, said, Step}
use Rattle.sheet.specs.Tally.{Tally, State, answer, step, steps, answers}

module _ {K R T : Type 0} (G : Ghosts K R) (meets : T → R → Bool) where
  steps_push : (t : Tally) (cs : List (Call T)) (c : Call T) → steps G meets t (cs ++ (c ∷ [])) ≡ step G meets (steps G meets t cs) c
  steps_push t [] c = refl
  steps_push t (d ∷ cs) c = steps_push (step G meets t d) cs c

  answers_push : (t : Tally) (cs : List (Call T)) (c : Call T) → answers G meets t (cs ++ (c ∷ [])) ≡ answers G meets t cs ++ (answer G meets (steps G meets t cs) c ∷ [])
  answers_push t [] c = refl
  answers_push t (d ∷ cs) c = ap (λ (l : List (Answer R)). answer G meets t d ∷ l) (answers_push (step G meets t d) cs c)

  run_push : {m m1 m2 : Numbers} {s s1 s2 : State} {ss ss1 ss2 : List Station} {n1 n2 : List K} {cs : List (Call T)} {heard : List (Answer K)} {c : Call T} {a : Answer K} →
      RunFrom G meets m s ss cs heard m1 s1 ss1 n1 → Step G meets m1 s1 ss1 n1 c a m2 s2 ss2 n2 → RunFrom G meets m s ss (cs ++ (c ∷ [])) (heard ++ (a ∷ [])) m2 s2 ss2 n2
  run_push {m} {m1} {m2} {s} {s1} {s2} {ss} {ss1} {ss2} {n1} {n2} {cs} {heard} {c} {a} old one =
      let t = tally m s ss in
      let e : said G.reading a ≡ answer G meets (steps G meets t cs) c = one.answered ∙ ap (λ (u : Tally). answer G meets u c) old.stands in
      record {
        answered = map_push (said G.reading) heard a ∙ ap (λ (l : List (Answer R)). l ++ (said G.reading a ∷ [])) old.answered ∙ ap (λ (b : Answer R). answers G meets t cs ++ (b ∷ [])) e ∙ sym (answers_push t cs c);
        stands = one.stands ∙ ap (λ (u : Tally). step G meets u c) old.stands ∙ sym (steps_push t cs c);
        sound = one.sound;
      }

  -- one call more of a list, its answer written at its place
  pub run_more : {m m1 m2 : Numbers} {s s1 s2 : State} {ss ss1 ss2 : List Station} {n1 n2 : List K} (cs : List (Call T)) (heard : List (Answer K)) (i : ℕ) (c : Call T) {a : Answer K} → c ≡ get_or cs i c → i < length cs → i < length heard →
      RunFrom G meets m s ss (take i cs) (take i heard) m1 s1 ss1 n1 → Step G meets m1 s1 ss1 n1 c a m2 s2 ss2 n2 → RunFrom G meets m s ss (take (i + 1) cs) (take (i + 1) (set heard i a)) m2 s2 ss2 n2
  run_more cs heard i c {a} is lt room old one = rw (take_more cs i c lt, ← is, take_more_set heard i a room) (run_push old one)
