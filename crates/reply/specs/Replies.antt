-- The bytes of a reply: one line, closed by a byte 10.
use Rattle.std.specs.Prelude.{ℕ, List, ◌∷◌, ◌++◌, codes, decimal}
use Rattle.std.specs.Fmt.{signed_decimal}
use Rattle.reply.specs.Faults.{letter, layer, number, place}
use Rattle.reply.specs.declared.replies.Reply.{Reply}
use Rattle.reply.specs.declared.replies.Reply.TheVariants.{Listed, Posted, Collared, Lapsed, Halted, Lifted, Priced, Ordered, Withdrawn, Refused}

-- numbers in base ten without leading zeros, a negative one after a minus sign
abbrev pub text : Reply → List ℕ
text (Listed contract) = codes "L " ++ (decimal contract ++ codes "\n")
text Posted = codes "P\n"
text Collared = codes "K\n"
text (Lapsed orders) = codes "C " ++ (decimal orders ++ codes "\n")
text Halted = codes "H\n"
text Lifted = codes "G\n"
text (Priced price distance) = codes "A " ++ (decimal price ++ (codes " " ++ (signed_decimal distance ++ codes "\n")))
text (Ordered order partner) = codes "E " ++ (decimal order ++ (codes " " ++ (decimal partner ++ codes "\n")))
text Withdrawn = codes "W\n"
text (Refused fault) = codes "X " ++ (letter (layer fault) ∷ (codes " " ++ (decimal (number fault) ++ (codes " " ++ (decimal (place fault) ++ codes "\n")))))
