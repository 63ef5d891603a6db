-- The link's events of a ladder, by its fates: "Frames go out until wait, then answers come in order, then a timeout if any is missing".
use Rattle.std.specs.Prelude.{List, [], ◌∷◌, ◌++◌, Bool, true, false, ◌≡◌}
use Rattle.link.specs.Ports.{Ports}
use Rattle.link.specs.World.{World, Event, run}
use Rattle.ladder_text.specs.declared.types.Fate.{Fate}
use Rattle.ladder_text.specs.declared.types.Fate.TheVariants.{Ok, Noack, Bad, Nonak, Lost}
use Rattle.ladder_run.specs.Row.{area}

-- "`noack` (ACK lost), `bad` (damaged, NAK arrives), `nonak` (damaged, NAK lost), `lost`": what becomes of a frame
abbrev pub frame_event : {P : Ports} → Fate → Event P
frame_event Ok = Event.arrives
frame_event Noack = Event.arrives
frame_event Bad = Event.damaged
frame_event Nonak = Event.damaged
frame_event Lost = Event.frame_lost

-- a frame asked for, and its fate
abbrev pub frame_events : {P : Ports} → Fate → List (Event P)
frame_events x = Event.ask area ∷ frame_event x ∷ []

-- what becomes of its ACK or NAK; a lost frame has neither
abbrev pub answer_events : {P : Ports} → Fate → List (Event P)
answer_events Ok = Event.confirmed ∷ []
answer_events Noack = Event.confirmation_lost ∷ []
answer_events Bad = Event.confirmed ∷ []
answer_events Nonak = Event.confirmation_lost ∷ []
answer_events Lost = []

-- "if any is missing"
abbrev pub missing : List Fate → Bool
missing [] = false
missing (Ok ∷ xs) = missing xs
missing (Noack ∷ xs) = true
missing (Bad ∷ xs) = missing xs
missing (Nonak ∷ xs) = true
missing (Lost ∷ xs) = true

abbrev pub timeout_if : {P : Ports} → Bool → List (Event P)
timeout_if true = Event.timeout ∷ []
timeout_if false = []

-- what f gives for each, in order
abbrev pub each : {A B : Type 0} → (A → List B) → List A → List B
each f [] = []
each f (x ∷ xs) = f x ++ each f xs

-- a round whose frames have these fates, and one more asked for
abbrev pub round_of : {P : Ports} → List Fate → List (Event P)
round_of xs = each frame_events xs ++ (Event.ask area ∷ []) ++ each answer_events xs ++ timeout_if (missing xs)

-- "until wait": the one more is not handed out, since in no round a frame is on the way then
abbrev pub Waits : {P : Ports} → World P → List (List Fate) → Type 0
Waits w [] = Unit {0}
Waits w (xs ∷ rounds) = ((run w (each frame_events xs ++ (Event.ask area ∷ []))).frames ≡ []) × Waits (run w (round_of xs)) rounds
