pub mod Answer
pub mod Reading
pub use Rattle.jk_model.specs.ClassFile
pub use Rattle.jk_model.specs.ConstantPool
