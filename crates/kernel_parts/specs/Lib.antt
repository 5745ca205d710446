pub mod SoundKernels
