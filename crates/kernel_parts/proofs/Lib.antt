mod DescriptorOfMain
mod FirstParts
mod WorldOfSystem
