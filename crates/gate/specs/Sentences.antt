-- What the program says to a broker who asked for a price.
use Rattle.std.specs.Prelude.{ℕ, suc, cond, List, ◌++◌, ℤ, pos, negsuc, Some, None, codes, decimal, Option, ◌==◌}

-- parts of a pip, as a whole number where a part is a whole pip
abbrev pub pips : ℕ → ℕ → List ℕ
pips parts divisor = cond (divisor == 1) (decimal parts) (decimal parts ++ (codes "/" ++ decimal divisor))

abbrev pub sentence : ℕ → ℕ → Option (ℕ × ℤ) → List ℕ
sentence n d None = codes "Asked for " ++ (pips n d ++ codes ": there is no price.")
sentence n d (Some (price, pos above)) =
    cond (above == 0)
    (codes "Asked for " ++ (pips n d ++ (codes ": the price is " ++ (decimal price ++ codes "."))))
    (codes "Asked for " ++ (pips n d ++ (codes ": the price is " ++ (decimal price ++ (codes ", " ++ (pips above d ++ codes " above."))))))
sentence n d (Some (price, negsuc below)) =
    codes "Asked for " ++ (pips n d ++ (codes ": the price is " ++ (decimal price ++ (codes ", " ++ (pips (suc below) d ++ codes " below.")))))
