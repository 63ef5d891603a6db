use Rattle.ladder_text.proofs.decimal.+print_number.Given as goal

-- the function calls itself with the tenth of n
abbrev pub decreases-print_number : goal.decreases-print_number
decreases-print_number l = l.n
