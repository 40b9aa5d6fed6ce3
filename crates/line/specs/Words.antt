-- The words that a line begins with, by their letters, and how many fields each has.
use Rattle.std.specs.Prelude.{ℕ, cond, List, length, Some, None, Option, ◌==◌, slice_index}
use Rattle.history.specs.declared.calls.Side.TheVariants.{Bid, Offer}
use Rattle.line.specs.declared.words.Word.{Word}
use Rattle.line.specs.declared.words.Word.TheVariants.{List as ToList, Post, Collar, Clock, Halt, Lift, Ask, Enter, Withdraw}

-- by the letter's code: L, P, K, C, H, G, A, B, S, W
abbrev pub word_of : ℕ → Option Word
word_of letter =
    cond (letter == 76) (Some ToList) (
    cond (letter == 80) (Some Post) (
    cond (letter == 75) (Some Collar) (
    cond (letter == 67) (Some Clock) (
    cond (letter == 72) (Some Halt) (
    cond (letter == 71) (Some Lift) (
    cond (letter == 65) (Some Ask) (
    cond (letter == 66) (Some (Enter Bid)) (
    cond (letter == 83) (Some (Enter Offer)) (
    cond (letter == 87) (Some Withdraw) None)))))))))

-- a word is one byte
abbrev pub word_in : List ℕ → Option Word
word_in bytes = cond (length bytes == 1) (word_of (slice_index bytes 0)) None

-- the word itself is one of them
abbrev pub fields_of : Word → ℕ
fields_of ToList = 2
fields_of Post = 4
fields_of Collar = 4
fields_of Clock = 2
fields_of Halt = 2
fields_of Lift = 2
fields_of Ask = 4
fields_of (Enter side) = 6
fields_of Withdraw = 3
