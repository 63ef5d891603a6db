-- The events of a round as they come: one frame more, the round's end.
use mathlib.Core.List.{List, [], ◌∷◌, ◌++◌, map, append-nil, append_assoc}
use mathlib.Core.Path.{◌≡◌, refl, sym, ap, subst, ◌∙◌}
use Rattle.link.specs.Ports.{Ports}
use Rattle.link.specs.World.{World, Event, step, run}
use Rattle.ladder_text.specs.declared.types.Fate.{Fate}
use Rattle.ladder_run.specs.Row.{area}
use Rattle.ladder_claim.specs.Rounds.{frame_event, frame_events, answer_events, missing, timeout_if, each, round_of, Waits}

module _ {A B : Type 0} where
  pub each_last : (f : A → List B) (xs : List A) (x : A) → each f (xs ++ (x ∷ [])) ≡ each f xs ++ f x
  each_last f [] x = append-nil (f x)
  each_last f (a ∷ xs) x = ap (λ (v : List B). f a ++ v) (each_last f xs x) ∙ sym (append_assoc (f a) (each f xs) (f x))

  pub map_last : (f : A → B) (xs : List A) (x : A) → map f (xs ++ (x ∷ [])) ≡ map f xs ++ (f x ∷ [])
  map_last f [] x = refl
  map_last f (a ∷ xs) x = ap (λ (v : List B). f a ∷ v) (map_last f xs x)

module _ {P : Ports} where
  -- the rounds that are over, the frames of this one, and what came behind them
  abbrev pub so_far : List (List Fate) → List Fate → List (Event P) → List (Event P)
  so_far rounds xs last = each round_of rounds ++ each frame_events xs ++ last

  -- a frame more
  pub frame_last : (rounds : List (List Fate)) (xs : List Fate) (x : Fate) → so_far rounds xs [] ++ (Event.ask area ∷ []) ++ (frame_event x ∷ []) ≡ so_far rounds (xs ++ (x ∷ [])) []
  frame_last rounds xs x = rw (each_last frame_events xs x) (simp (append-nil, append_assoc))

  -- "wait"
  pub wait_last : (rounds : List (List Fate)) (xs : List Fate) → so_far rounds xs [] ++ (Event.ask area ∷ []) ≡ so_far rounds xs (Event.ask area ∷ [])
  wait_last rounds xs = rw append-nil

  -- the round is over
  pub round_last : (rounds : List (List Fate)) (xs : List Fate) → so_far rounds xs (Event.ask area ∷ []) ++ each answer_events xs ++ timeout_if (missing xs) ≡ so_far (rounds ++ (xs ∷ [])) [] []
  round_last rounds xs = rw (each_last round_of rounds xs) (simp (append-nil, append_assoc))

  run_append : (w : World P) (es es' : List (Event P)) → run w (es ++ es') ≡ run (run w es) es'
  run_append w [] es' = refl
  run_append w (e ∷ es) es' = run_append (step w e) es es'

  -- the frames of a round, and one more asked for
  abbrev asking : List Fate → List (Event P)
  asking xs = each frame_events xs ++ (Event.ask area ∷ [])

  after_rounds : (w : World P) (rounds : List (List Fate)) (xs : List Fate) → Waits w rounds → (run (run w (each round_of rounds)) (asking xs)).frames ≡ [] → Waits w (rounds ++ (xs ∷ []))
  after_rounds w [] xs a e = (e, tt)
  after_rounds w (ys ∷ rounds) xs a e =
      (a.0, after_rounds (run w (round_of ys)) rounds xs a.1 (subst (λ (v : World P). (run v (asking xs)).frames ≡ []) (run_append w (round_of ys) (each round_of rounds)) e))

  -- one round more
  pub waits_last : (w : World P) (rounds : List (List Fate)) (xs : List Fate) → Waits w rounds → (run w (so_far rounds xs (Event.ask area ∷ []))).frames ≡ [] → Waits w (rounds ++ (xs ∷ []))
  waits_last w rounds xs a e =
      after_rounds w rounds xs a
      (ap (λ (v : World P). v.frames) (sym (run_append w (each round_of rounds) (asking xs)) ∙ ap (run w) (sym (append_assoc (each round_of rounds) (each frame_events xs) (Event.ask area ∷ [])))) ∙ e)
