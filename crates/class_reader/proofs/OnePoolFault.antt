-- Bytes that hold a pool have no fault in it, one fault of a pool is at one index, and it rules out a cut.
use Rattle.std.proofs.Common.{◌≡◌, ℕ, ◌⊎◌, inl, inr, List}
use Rattle.std.specs.List.{AllByRecursion}
use Rattle.jk_model.specs.declared.class_file.PoolEntry.{PoolEntry}
use Rattle.jk_model.specs.ClassFile.{IsGoodEntry}
use Rattle.jk_model.specs.ConstantPool.{BeginsWithPool, IsCutPool}
use Rattle.const_pool.specs.declared.pool.PoolError.TheVariants.{BadTag, BadIndex, BadUtf, OutOfMemory}
use Rattle.const_pool.proofs.OnePool.{one_stop, pool_not_cut, stop_not_cut, ok_tag, ok_index, ok_text, err_index, err_text}
use Rattle.class_reader.specs.Answers.{HasPoolFault}

pub good_no_fault : (bytes : List ℕ) (pool : List PoolEntry) (rest : List ℕ) → BeginsWithPool bytes pool rest → AllByRecursion (IsGoodEntry pool) pool
    → (i : ℕ) → HasPoolFault bytes i → ⊥
good_no_fault bytes pool rest h good i (inl stop) = ok_tag bytes pool rest (h, good) i stop
good_no_fault bytes pool rest h good i (inr (inl text)) = ok_text bytes pool rest (h, good) i text
good_no_fault bytes pool rest h good i (inr (inr index)) = ok_index bytes pool rest (h, good) i index

pub fault_not_cut : (bytes : List ℕ) (i : ℕ) → HasPoolFault bytes i → IsCutPool bytes → ⊥
fault_not_cut bytes i (inl stop) cut = stop_not_cut bytes i stop cut
fault_not_cut bytes i (inr (inl (pool, rest, e, begins, bad, text))) cut = pool_not_cut bytes pool rest begins cut
fault_not_cut bytes i (inr (inr (pool, rest, e, begins, bad, other))) cut = pool_not_cut bytes pool rest begins cut

-- ---- One index: faults of two kinds aren't both there.

tag_not_text : (i j : ℕ) → (BadTag i ≡ BadUtf j) ⊎ (BadTag i ≡ OutOfMemory) → ⊥
tag_not_text i j (inl e) = absurd cc
tag_not_text i j (inr e) = absurd cc

tag_not_index : (i j : ℕ) → (BadTag i ≡ BadIndex j) ⊎ (BadTag i ≡ OutOfMemory) → ⊥
tag_not_index i j (inl e) = absurd cc
tag_not_index i j (inr e) = absurd cc

text_not_index : (i j : ℕ) → (BadUtf i ≡ BadIndex j) ⊎ (BadUtf i ≡ OutOfMemory) → ⊥
text_not_index i j (inl e) = absurd cc
text_not_index i j (inr e) = absurd cc

same_text : (i j : ℕ) → (BadUtf i ≡ BadUtf j) ⊎ (BadUtf i ≡ OutOfMemory) → i ≡ j
same_text i j (inl e) = cc
same_text i j (inr e) = absurd cc

same_index : (i j : ℕ) → (BadIndex i ≡ BadIndex j) ⊎ (BadIndex i ≡ OutOfMemory) → i ≡ j
same_index i j (inl e) = cc
same_index i j (inr e) = absurd cc

pub one_pool_fault : (bytes : List ℕ) (i j : ℕ) → HasPoolFault bytes i → HasPoolFault bytes j → i ≡ j
one_pool_fault bytes i j (inl h) (inl k) = one_stop bytes i j h k
one_pool_fault bytes i j (inl h) (inr (inl k)) = absurd (tag_not_text i j (err_text bytes (BadTag i) h j k))
one_pool_fault bytes i j (inl h) (inr (inr k)) = absurd (tag_not_index i j (err_index bytes (BadTag i) h j k))
one_pool_fault bytes i j (inr (inl h)) (inl k) = absurd (tag_not_text j i (err_text bytes (BadTag j) k i h))
one_pool_fault bytes i j (inr (inl h)) (inr (inl k)) = same_text i j (err_text bytes (BadUtf i) h j k)
one_pool_fault bytes i j (inr (inl h)) (inr (inr k)) = absurd (text_not_index i j (err_index bytes (BadUtf i) h j k))
one_pool_fault bytes i j (inr (inr h)) (inl k) = absurd (tag_not_index j i (err_index bytes (BadTag j) k i h))
one_pool_fault bytes i j (inr (inr h)) (inr (inl k)) = absurd (text_not_index j i (err_index bytes (BadUtf j) k i h))
one_pool_fault bytes i j (inr (inr h)) (inr (inr k)) = same_index i j (err_index bytes (BadIndex i) h j k)
