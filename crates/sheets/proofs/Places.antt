-- Places of columns in cells.
use Rattle.std.proofs.Common.{ℕ, suc, ◌+◌, ◌*◌, ◌<◌, ◌≤◌, mul-le-mul_right, suc-mul, mul-one, mul-add, arith}

-- the whole column of a move lies within the columns
pub column_in : (j k h : ℕ) → j < k → j * h + h ≤ k * h
column_in j k h a = let m : suc j * h ≤ k * h = mul-le-mul_right h a in omega (arith, suc-mul j h)

-- the moves of a sheet stand within its main cells
pub main_room : (n k : ℕ) → k ≤ n → n + k * n ≤ n * (n + 1)
main_room n k h = let m = mul-add n n 1 in let o = mul-one n in let q : k * n ≤ n * n = mul-le-mul_right n h in omega arith

-- and the columns of a posting within its spare ones
pub work_room : (n k len : ℕ) → k ≤ n → n * (n + 1) + (n + 1) * (n + 1) ≤ len → n * (n + 1) + ((n + 1) + k * (n + 1)) ≤ len
work_room n k len h room = let t = column_in k (n + 1) (n + 1) (omega arith) in omega (arith, t, room)

-- the moves of a sheet stand within its cells
pub rows_in : (n k len : ℕ) → k ≤ n → n * (n + 1) + (n + 1) * (n + 1) ≤ len → n + k * n ≤ len
rows_in n k len h room = let m = main_room n k h in omega (arith, m, room)
