-- A method of the system is one of the table: it has a meaning, and the types and the class that suit it.
use Rattle.std.proofs.Common.{◌≡◌, ℕ, ◌<◌, true, List, length, Some, slice_get, sym, ap, subst, ◌∙◌}
use Rattle.std.proofs.lemmas.Option.{same_Some, slice_get_within}
use Rattle.list_lemmas.proofs.ItemsByPlace.{item_there}
use Rattle.jk_model.specs.Flags.{has, STATIC}
use Rattle.jk_model.specs.SystemTable.{SystemClass, SystemMethod, system_classes}
use Rattle.jk_model.specs.declared.identifiers.MemberId.{MemberId}
use Rattle.jk_model_classes.specs.declared.records.Body.TheVariants as Does
use Rattle.jk_model_classes.specs.declared.records.ClassRecord.{ClassRecord}
use Rattle.jk_model_classes.specs.declared.records.MethodRecord.{MethodRecord}
use Rattle.jk_model_classes.specs.Lookups.{MethodIs}
use Rattle.jk_model_system_rows.specs.declared.meanings.SystemMeaning.{SystemMeaning}
use Rattle.jk_model_system_rows.specs.Meanings.{meaning_of}
use Rattle.heap_laws.specs.SoundCodes.{AreSoundCodes}
use Rattle.system_facts.specs.DescriptorReader.{MethodTypes, method_types}
use Rattle.system_facts.proofs.SystemEntries.{entry_of, method_entry, method_is_read}
use Rattle.row_laws.proofs.MeaningsOfTable.{MeaningFound, MethodFacts, is_class_for, is_static_for, meaning_found, meaning_told, params_for, result_for}

pub record HasMeaning (m : MemberId) (method : MethodRecord) : Type 0 where
  pub meaning : SystemMeaning
  pub means : meaning_of m ≡ Some meaning
  pub params : method.params ≡ params_for meaning
  pub result : method.result ≡ result_for m.class.0 meaning
  pub static : has method.flags STATIC ≡ is_static_for meaning
  pub of_class : is_class_for meaning m.class.0 ≡ true

module _ (classes : List ClassRecord) (sound : AreSoundCodes classes) (m : MemberId) (method : MethodRecord) (number : ℕ)
    (is : MethodIs classes m method) (system : method.body ≡ Does.System number) where
  low : m.class.0 < length system_classes
  low = sound.of_system m.class is.0 is.1 (sound.system_bodies m method is.0 number is is.1 system)

  listed_with : (class : SystemClass) (entry : SystemMethod) → slice_get system_classes m.class.0 ≡ Some class
      → slice_get class.methods m.index ≡ Some entry → HasMeaning m method
  listed_with class entry at has_entry =
      let found : MeaningFound m.class.0 m.index entry = meaning_found m.class.0 m.index class entry at has_entry in
      let said = method_entry classes sound.system m class entry method at has_entry is in
      let told : MethodTypes = record { params = method.params; result = method.result } in
      let wanted : MethodTypes =
      record { params = params_for found.means.meaning; result = result_for m.class.0 found.means.meaning } in
      let read : method_types entry.descriptor ≡ Some told = method_is_read classes sound.system m class entry method at has_entry is in
      let types : method_types entry.descriptor ≡ Some wanted = ap (λ (f : MethodFacts). f.types) found.suits in
      let same : told ≡ wanted = same_Some told wanted (sym read ∙ types) in
      record {
        meaning = found.means.meaning;
        means = meaning_told m entry found;
        params = ap (λ (t : MethodTypes). t.params) same;
        result = ap (λ (t : MethodTypes). t.result) same;
        static = ap (λ (flags : ℕ). has flags STATIC) said.flags ∙ ap (λ (f : MethodFacts). f.static) found.suits;
        of_class = sym (ap (λ (f : MethodFacts). f.of_class) found.suits);
      }

  pub has_meaning : HasMeaning m method
  has_meaning =
      let class = item_there system_classes m.class.0 low in
      let said = entry_of classes sound.system m.class class.0 is.0 class.1 is.1 in
      let within : m.index < length class.0.methods = subst (λ (n : ℕ). m.index < n) said.method_count (slice_get_within is.0.methods m.index method is.2) in
      let entry = item_there class.0.methods m.index within in
      listed_with class.0 entry.0 class.1 entry.1
