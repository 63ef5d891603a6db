-- What a call of the code leaves and answers, in the paper's terms.
use Rattle.status.specs.Answer.{says, Left, ◌saying◌}
use Rattle.status.specs.declared.stepped.Stepped.{Stepped}

abbrev pub stepped : {X : Type 0} → Stepped X → Left X
stepped x = x.left saying says x.answer
