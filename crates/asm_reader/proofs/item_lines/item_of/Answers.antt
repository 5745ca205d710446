-- Each sort of line as an item.
use Rattle.std.proofs.Common.{◌≡◌, ◌∷◌, refl, option_map, rules}
use Rattle.asm_reader.specs.declared.items.Item.TheVariants as item
use Rattle.asm_reader.specs.declared.words.Word.TheVariants.{Plain}
use Rattle.asm_reader.specs.Items.{Class, Field, Method, Catch, Code, IsClassLine, IsFieldLine, IsMethodLine, IsCatchLine, IsCodeLine}
use Rattle.asm_reader.proofs.ItemsByKeyword.{found_by_keyword}
use Rattle.asm_reader.proofs.item_lines.item_of.Goals as goal

pub returns-in_ok-class_line-in-Class : goal.returns-in_ok-class_line-in-Class
returns-in_ok-class_line-in-Class c =
    let word = c.in-Some.word.now in
    let rest = c.in-Some.rest.now in
    let is : c.map.result ≡ option_map item.Class c.in_ok-class_line-in-Class.field-0 = search rules in
    found_by_keyword c.args.words.now word rest Class item.Class (λ line. IsClassLine rest line) c.in_ok-class_line-in-Class.field-0
    c.map.result c.in-Some.ensures c.in-Class.ensures
    (λ line h. (line, refl, h)) (λ i h. (h.0, h.2)) c.in_ok-class_line-in-Class.ensures is

pub returns-in_ok-field_line-in-Field : goal.returns-in_ok-field_line-in-Field
returns-in_ok-field_line-in-Field c =
    let word = c.in-Some.word.now in
    let rest = c.in-Some.rest.now in
    let is : c.map-in-Field.result ≡ option_map item.Field c.in_ok-field_line-in-Field.field-0 = search rules in
    found_by_keyword c.args.words.now word rest Field item.Field (λ line. IsFieldLine rest line) c.in_ok-field_line-in-Field.field-0
    c.map-in-Field.result c.in-Some.ensures c.in-Field.ensures
    (λ line h. (line, refl, h)) (λ i h. (h.0, h.2)) c.in_ok-field_line-in-Field.ensures is

pub returns-in_ok-method_line-in-Method : goal.returns-in_ok-method_line-in-Method
returns-in_ok-method_line-in-Method c =
    let word = c.in-Some.word.now in
    let rest = c.in-Some.rest.now in
    let is : c.map-in-Method.result ≡ option_map item.Method c.in_ok-method_line-in-Method.field-0 = search rules in
    found_by_keyword c.args.words.now word rest Method item.Method (λ line. IsMethodLine rest line) c.in_ok-method_line-in-Method.field-0
    c.map-in-Method.result c.in-Some.ensures c.in-Method.ensures
    (λ line h. (line, refl, h)) (λ i h. (h.0, h.2)) c.in_ok-method_line-in-Method.ensures is

pub returns-in_ok-catch_line-in-Catch : goal.returns-in_ok-catch_line-in-Catch
returns-in_ok-catch_line-in-Catch c =
    let word = c.in-Some.word.now in
    let rest = c.in-Some.rest.now in
    let is : c.map-in-Catch.result ≡ option_map item.Catch c.in_ok-catch_line-in-Catch.field-0 = search rules in
    found_by_keyword c.args.words.now word rest Catch item.Catch (λ line. IsCatchLine rest line) c.in_ok-catch_line-in-Catch.field-0
    c.map-in-Catch.result c.in-Some.ensures c.in-Catch.ensures
    (λ line h. (line, refl, h)) (λ i h. (h.0, h.2)) c.in_ok-catch_line-in-Catch.ensures is

pub returns-in_ok-code_line-in-Code : goal.returns-in_ok-code_line-in-Code
returns-in_ok-code_line-in-Code c =
    let word = c.in-Some.word.now in
    let rest = c.in-Some.rest.now in
    let is : c.map-in-Code.result ≡ option_map item.Code c.in_ok-code_line-in-Code.field-0 = search rules in
    found_by_keyword c.args.words.now word rest Code item.Code (λ line. IsCodeLine (Plain word ∷ rest) line) c.in_ok-code_line-in-Code.field-0
    c.map-in-Code.result c.in-Some.ensures c.in-Code.ensures
    (λ line h. (line, refl, h)) (λ i h. (h.0, h.2)) (rw c.in-Some.ensures at c.in_ok-code_line-in-Code.ensures) is
