-- Worked examples: a class file, types, a loop, a switch, a line with escapes, and a script. `src/laws.rt`
-- states what the definitions say of them.
use Rattle.std.specs.Prelude.{ℕ, pos, negsuc, List, [], ◌∷◌, ◌++◌, Some, None, codes}
use Rattle.jk_model.specs.declared.class_file.ClassFile.{ClassFile}
use Rattle.jk_model.specs.declared.class_file.PoolEntry.TheVariants.{Unusable, Utf8, Class}
use Rattle.jk_model.specs.declared.descriptors.Base.TheVariants.{Long, Class as ClassBase}
use Rattle.jk_model.specs.declared.descriptors.FieldType.{FieldType}
use Rattle.jk_model.specs.declared.descriptors.MethodType.{MethodType}
use Rattle.jk_model.specs.declared.instructions.Instr.{Instr}
use Rattle.jk_model.specs.declared.output.Line.{Line}
use Rattle.jk_model.specs.declared.output.Line.TheVariants.{Said}
use Rattle.jk_model.specs.declared.script.Event.{Event}
use Rattle.jk_model.specs.declared.opcodes.TheConstants.{NOP, ILOAD, IFNE, TABLESWITCH, RETURN}
use Rattle.jk_model.specs.declared.script.Event.TheVariants.{Domain, Start, Turn, Round, Kill}
use Rattle.jk_model.specs.Instructions.{plain, switch}
use Rattle.jk_model.specs.Script.{default_quotas}

-- ---- The smallest class: A, with nothing in it, below java/lang/Object.

abbrev pub smallest_bytes : List ℕ
smallest_bytes =
    -- the magic number, and version 45.3
    0xca ∷ 0xfe ∷ 0xba ∷ 0xbe ∷ 0x00 ∷ 0x03 ∷ 0x00 ∷ 0x2d
    -- the pool: its count, and the entries 1 to 4
    ∷ 0x00 ∷ 0x05 ∷ 0x07 ∷ 0x00 ∷ 0x02 ∷ 0x01 ∷ 0x00 ∷ 0x01 ∷ 0x41 ∷ 0x07 ∷ 0x00 ∷ 0x04
    ∷ 0x01 ∷ 0x00 ∷ 0x10 ∷ 0x6a ∷ 0x61 ∷ 0x76 ∷ 0x61 ∷ 0x2f ∷ 0x6c ∷ 0x61 ∷ 0x6e ∷ 0x67
    ∷ 0x2f ∷ 0x4f ∷ 0x62 ∷ 0x6a ∷ 0x65 ∷ 0x63 ∷ 0x74
    -- the flags, the class and its super class
    ∷ 0x00 ∷ 0x21 ∷ 0x00 ∷ 0x01 ∷ 0x00 ∷ 0x03
    -- no interfaces, fields, methods or attributes
    ∷ 0x00 ∷ 0x00 ∷ 0x00 ∷ 0x00 ∷ 0x00 ∷ 0x00 ∷ 0x00 ∷ 0x00 ∷ []

abbrev pub smallest : ClassFile
smallest = record {
  minor = 3;
  major = 45;
  pool = Unusable ∷ Class 2 ∷ Utf8 (codes "A") ∷ Class 4 ∷ Utf8 (codes "java/lang/Object") ∷ [];
  flags = 0x21;
  this_class = 1;
  super_class = 3;
  interfaces = [];
  fields = [];
  methods = [];
  attributes = [];
}

-- ---- An array of arrays of long, and a method that takes a long and a text and answers nothing.

abbrev pub longs_in_arrays : FieldType
longs_in_arrays = record { dims = 2; base = Long }

abbrev pub takes_long_and_text : MethodType
takes_long_and_text = record {
  params = record { dims = 0; base = Long } ∷ record { dims = 0; base = ClassBase (codes "java/lang/String") } ∷ [];
  result = None;
}

-- ---- A loop: iload_1, ifne back to it, return.

abbrev pub loop_bytes : List ℕ
loop_bytes = 0x1b ∷ 0x9a ∷ 0xff ∷ 0xff ∷ 0xb1 ∷ []

abbrev pub loop_instrs : List Instr
loop_instrs = plain 0 ILOAD (pos 1) (pos 0) ∷ plain 1 IFNE (pos 0) (pos 0) ∷ plain 4 RETURN (pos 0) (pos 0) ∷ []

-- ---- A nop, and after it a tableswitch with the keys 0 and 1, whose operands begin at place 4.

abbrev pub switch_bytes : List ℕ
switch_bytes =
    0x00 ∷ 0xaa ∷ 0x00 ∷ 0x00
    ∷ 0x00 ∷ 0x00 ∷ 0x00 ∷ 0x10 ∷ 0x00 ∷ 0x00 ∷ 0x00 ∷ 0x00 ∷ 0x00 ∷ 0x00 ∷ 0x00 ∷ 0x01
    ∷ 0x00 ∷ 0x00 ∷ 0x00 ∷ 0x0a ∷ 0xff ∷ 0xff ∷ 0xff ∷ 0xfe ∷ []

abbrev pub switch_instrs : List Instr
switch_instrs =
    plain 0 NOP (pos 0) (pos 0)
    ∷ switch 1 TABLESWITCH 0x10 (record { key = pos 0; target = pos 11 } ∷ record { key = pos 1; target = negsuc 0 } ∷ [])
    ∷ []

-- ---- A line with a line feed and a backslash in what was printed.

abbrev pub escaped_line : Line
escaped_line = Said (codes "a") (codes "x" ++ 10 ∷ codes "b: y" ++ 92 ∷ [])

-- ---- A script with each command, a comment, blanks and a carriage return, and the events that it stands for.

abbrev pub whole_script : List ℕ
whole_script =
    codes "# all of it\ndomain a-1 threads 2  heap 64 steps 0\r\n\n\tstart a-1 p/M x -y\nturn 4294967295\nturn 0 5\nround 1000 1000000\nkill a-1"

abbrev pub whole_events : List Event
whole_events =
    Domain (codes "a-1") (record default_quotas { heap = 64; threads = 2; steps = Some 0 })
    ∷ Start (codes "a-1") (codes "p/M") (codes "x" ∷ codes "-y" ∷ [])
    ∷ Turn 4294967295 1 ∷ Turn 0 5 ∷ Round 1000 1000000 ∷ Kill (codes "a-1") ∷ []
