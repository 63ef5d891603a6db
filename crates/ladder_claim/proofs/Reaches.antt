-- What an allowed list of link events leads to.
use mathlib.Core.List.{List, [], ◌∷◌, ◌++◌}
use mathlib.Core.Path.{◌≡◌, refl, sym, subst, ◌∙◌}
use Rattle.link.specs.Ports.{Ports}
use Rattle.link.specs.World.{World, Event, step, run, Allows, Allowed}

module _ {P : Ports} where
  pub record Reaches (start : World P) (events : List (Event P)) (w : World P) : Type 0 where
    pub allowed : Allowed start events
    pub ends : run start events ≡ w

  pub nothing_yet : (start : World P) → Reaches start [] start
  nothing_yet start = record { allowed = tt; ends = refl }

  run_last : (w : World P) (es : List (Event P)) (e : Event P) → run w (es ++ (e ∷ [])) ≡ step (run w es) e
  run_last w [] e = refl
  run_last w (x ∷ es) e = run_last (step w x) es e

  allowed_last : (w : World P) (es : List (Event P)) (e : Event P) → Allowed w es → Allows (run w es) e → Allowed w (es ++ (e ∷ []))
  allowed_last w [] e a x = (x, tt)
  allowed_last w (y ∷ es) e a x = (a.0, allowed_last (step w y) es e a.1 x)

  -- one event more
  pub reaches_on : {start w : World P} {es : List (Event P)} → Reaches start es w → (e : Event P) → Allows w e → Reaches start (es ++ (e ∷ [])) (step w e)
  reaches_on {start} {w} {es} r e a =
      record {
        allowed = allowed_last start es e r.allowed (subst (λ (v : World P). Allows v e) (sym r.ends) a);
        ends = run_last start es e ∙ (λ i. step (r.ends i) e);
      }

  -- the same events, written otherwise
  pub reaches_as : {start w : World P} {es es' : List (Event P)} → es ≡ es' → Reaches start es w → Reaches start es' w
  reaches_as {start} {w} e r = subst (λ (v : List (Event P)). Reaches start v w) e r
