-- The entries of the small pool are those of a class file, and good.
use Rattle.std.proofs.Common.{◌≡◌, List, [], ◌∷◌, refl, sym, subst, arith}
use Rattle.std.specs.List.{AllByRecursion}
use Rattle.jk_model.specs.declared.class_file.PoolEntry.{PoolEntry}
use Rattle.jk_model.specs.declared.class_file.PoolEntry.TheVariants.{Utf8}
use Rattle.jk_model.specs.ClassFile.{IsEntry, IsGoodEntry}
use Rattle.loaded_class_check.specs.SmallPool.{small_pool}
use Rattle.loaded_class_check.proofs.class_texts_tests.texts_and_names.Goals as goal

small_is_good : AllByRecursion (IsGoodEntry small_pool) small_pool
small_is_good =
    (tt, ((65 ∷ [], (65 ∷ [], [], (omega arith, omega arith, refl), refl, refl)), ((Utf8 (65 ∷ []), refl, tt), tt)))

small_are_entries : AllByRecursion IsEntry small_pool
small_are_entries = (tt, ((omega arith, (omega arith, tt)), (omega arith, tt)))

pub of-requires-clause-good : goal.of-requires-clause-good
of-requires-clause-good g c =
    let same : c.as_slice.result.now ≡ small_pool = cc (c.as_slice.ensures, c.pool.view_is, c.in_ok-pool.ensures) in
    subst (λ (pool : List PoolEntry). AllByRecursion (IsGoodEntry pool) pool) (sym same) small_is_good

pub of-requires-clause-entries : goal.of-requires-clause-entries
of-requires-clause-entries g c =
    let same : c.as_slice.result.now ≡ small_pool = cc (c.as_slice.ensures, c.pool.view_is, c.in_ok-pool.ensures) in
    subst (λ (pool : List PoolEntry). AllByRecursion IsEntry pool) (sym same) small_are_entries
