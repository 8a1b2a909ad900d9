-- What the ends of a deque count.
use Rattle.std.specs.Prelude.{ℕ, ◌≡◌, List, [], Option, Some, None}
use Rattle.std.specs.List.{sum_by}
use Rattle.std.specs.declared.alloc.Global.{Global}
use Rattle.atomic_blocks.specs.Lent.{RowsId}
use Rattle.crossbeam_deque.specs.declared.handles.Worker.{Worker}
use Rattle.crossbeam_deque.specs.Handles.{Pass, view, worker_view, worker_port, worker_flavor, worker_deque}
use Rattle.ruled_deques.specs.declared.rule.DequeView.{DequeView}
use Rattle.ruled_deques.specs.declared.rule.DequeRule.{DequeRule}

module _ {T : Type 0} where
  -- what was taken through a thief's end
  abbrev pub taken_through : Pass T (DequeView T) Global → List T
  taken_through token = (view token).taken

  -- the weight of what was taken through a thief's end
  abbrev pub token_taken : (T → ℕ) → Pass T (DequeView T) Global → ℕ
  token_taken h token = sum_by h (taken_through token)

  -- the weight of what was taken through the owner's end
  abbrev pub owner_taken : (T → ℕ) → Worker T Global (DequeView T) DequeRule → ℕ
  owner_taken h w = sum_by h (worker_view w).taken

  -- the weight of what was pushed through the owner's end
  abbrev pub owner_pushed : (T → ℕ) → Worker T Global (DequeView T) DequeRule → ℕ
  owner_pushed h w = sum_by h (worker_view w).pushed

  -- the shares of the owner's end
  abbrev pub owner_shares : Worker T Global (DequeView T) DequeRule → ℕ
  owner_shares w = (worker_view w).shares

  -- a new owner, which has all shares and has taken nothing
  abbrev pub IsFresh : Worker T Global (DequeView T) DequeRule → Type 0
  IsFresh w = (worker_flavor w ≡ 1) × (worker_port w ≡ 0) × ((worker_view w).shares ≡ 17) × ((worker_view w).taken ≡ [])

  -- a new owner of the deque, which has pushed these items
  abbrev pub IsOpened : Option (RowsId × Global) → List T → Worker T Global (DequeView T) DequeRule → Type 0
  IsOpened deque pushed w = IsFresh w × (Some (worker_deque w) ≡ deque) × ((worker_view w).pushed ≡ pushed)

  -- the deque of an owner, if there is one
  abbrev pub deque_of : Option (Worker T Global (DequeView T) DequeRule) → Option (RowsId × Global)
  deque_of None = None
  deque_of (Some w) = Some (worker_deque w)
