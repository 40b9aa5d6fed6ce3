-- The letters of the figures: their order, their characters, and the most that each may be.
use Rattle.std.specs.Prelude.{ℕ, Bool, cond, List, [], ◌∷◌, Some, None, Option, ◌==◌}
use Rattle.rulebook.specs.declared.letters.Letter.{Letter}
use Rattle.rulebook.specs.declared.letters.Letter.TheVariants.{B, O, L, U, V, W, X, Y, Z, H, I, K, M}

abbrev pub letters : List Letter
letters = B ∷ O ∷ L ∷ U ∷ V ∷ W ∷ X ∷ Y ∷ Z ∷ H ∷ I ∷ K ∷ M ∷ []

abbrev pub rank : Letter → ℕ
rank B = 1
rank O = 2
rank L = 3
rank U = 4
rank V = 5
rank W = 6
rank X = 7
rank Y = 8
rank Z = 9
rank H = 10
rank I = 11
rank K = 12
rank M = 13

abbrev pub same : Letter → Letter → Bool
same letter other = rank letter == rank other

-- the letter of a character, by its code
abbrev pub letter_of : ℕ → Option Letter
letter_of character =
    cond (character == 66) (Some B) (
    cond (character == 79) (Some O) (
    cond (character == 76) (Some L) (
    cond (character == 85) (Some U) (
    cond (character == 86) (Some V) (
    cond (character == 87) (Some W) (
    cond (character == 88) (Some X) (
    cond (character == 89) (Some Y) (
    cond (character == 90) (Some Z) (
    cond (character == 72) (Some H) (
    cond (character == 73) (Some I) (
    cond (character == 75) (Some K) (
    cond (character == 77) (Some M) None))))))))))))

-- the most that may be posted under a letter
abbrev pub most : Letter → ℕ
most letter = cond (rank letter == 13) 2 100_000_000_000
