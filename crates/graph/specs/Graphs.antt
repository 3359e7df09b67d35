-- A graph on the numbers below n: what follows what, what reaches what, and ranks that rise along it.
use Rattle.std.specs.Prelude.{◌≡◌, ℕ, zero, suc, ◌<◌, Bool, true, ◌&&◌, ◌||◌, List, length, find, Some, None, Ok, Err, Option, Result, nat_lt, slice_index}
use Rattle.std.specs.List.{range_with_len}
use Rattle.graph.specs.declared.ranking.Unranked.{Unranked}
use Rattle.graph.specs.declared.ranking.Unranked.TheVariants.{Loop, Memory}

-- The node b is a follower of the node a. What the graph tells of other numbers counts for nothing.
pub record Follower (n : ℕ) (follows : ℕ → ℕ → Bool) (a b : ℕ) : Type 0 where
  pub from : a < n
  pub to : b < n
  pub told : follows a b ≡ true

-- To reach is to go by one or more followers.
pub data Reach (n : ℕ) (follows : ℕ → ℕ → Bool) : ℕ → ℕ → Type 0 where
  one : {a b : ℕ} → Follower n follows a b → Reach n follows a b
  more : {a b c : ℕ} → Follower n follows a b → Reach n follows b c → Reach n follows a c

-- what a test says is reached, and what is so by way of k
abbrev pub by_way_of : ℕ → (ℕ → ℕ → Bool) → ℕ → ℕ → Bool
by_way_of k test a b = test a b || (test a k && test k b)

-- b is reached from a by way of nodes below k alone
abbrev pub via : ℕ → (ℕ → ℕ → Bool) → ℕ → ℕ → ℕ → Bool
via n follows zero a b = nat_lt a n && (nat_lt b n && follows a b)
via n follows (suc k) a b = by_way_of k (via n follows k) a b

-- The test that answers what `Reach` says.
abbrev pub reaches : ℕ → (ℕ → ℕ → Bool) → ℕ → ℕ → Bool
reaches n follows a b = via n follows n a b

-- The lowest node that reaches itself, if there is one.
abbrev pub lowest_loop : ℕ → (ℕ → ℕ → Bool) → Option ℕ
lowest_loop n follows = find (λ node. reaches n follows node node) (range_with_len 0 n)

-- The node reaches itself and no lower one does; or, of no node, none does.
abbrev pub Lowest : ℕ → (ℕ → ℕ → Bool) → Option ℕ → Type 0
Lowest n follows (Some node) = Reach n follows node node × ((lower : ℕ) → lower < node → Reach n follows lower lower → ⊥)
Lowest n follows None = (node : ℕ) → Reach n follows node node → ⊥

-- There is a rank for each node, and each follower's is higher.
pub record Ranked (n : ℕ) (follows : ℕ → ℕ → Bool) (ranks : List ℕ) : Type 0 where
  pub count : length ranks ≡ n
  pub rise : (a b : ℕ) → Follower n follows a b → slice_index ranks a < slice_index ranks b

-- The node on a loop that an answer tells in place of ranks.
abbrev pub loop_of : {T : Type 0} → Result T Unranked → Option ℕ
loop_of (Ok ranks) = None
loop_of (Err (Loop node)) = Some node
loop_of (Err (Memory short)) = None

-- The fact holds unless memory is short.
abbrev pub UnlessShort : {T : Type 0} → Result T Unranked → Type 0 → Type 0
UnlessShort (Ok ranks) P = P
UnlessShort (Err (Loop node)) P = P
UnlessShort (Err (Memory short)) P = Unit {0}
