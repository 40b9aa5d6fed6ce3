-- The digits of a number, one by one.
use Rattle.std.proofs.Common.{◌≡◌, ℕ, suc, ◌+◌, ◌*◌, ◌^◌, ◌<◌, ◌≤◌, pow-suc, arith}
use native.Mathlib.Nat.{pow-le-pow_right}

-- one digit more keeps a number of at most 16 digits small
pub one_more : (n i : ℕ) → n < 10 ^ i → i < 16 → n * 10 + 9 < 2 ^ 64
one_more n i below few =
    let up : 10 ^ suc i ≡ 10 ^ i * 10 = pow-suc 10 i in
    let top : 10 ^ suc i ≤ 10 ^ 16 = (let le : suc i ≤ 16 = omega arith in let some : 0 < 10 = omega arith in pow-le-pow_right some le) in
    omega (arith, up, top)
